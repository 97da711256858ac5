-- What is kept of a task's sections says what the sections say.
use Rattle.std.proofs.Common.{ℕ, zero, suc, ◌^◌, inl, inr, get_or, take, length-append, All, ◌+◌}
use Rattle.std.proofs.Common.{◌<◌, ◌≤◌, ◌≡◌, max, List, [], ◌∷◌, ◌++◌, length, refl, sym, ap, ap₂}
use Rattle.std.proofs.Common.{◌∙◌, subst, arith}
use Rattle.std.proofs.lemmas.Bool.{cases_lt}
use Rattle.std.proofs.lemmas.List.{take_more, get_or_append_left, get_or_default}
use Rattle.std.proofs.lemmas.List.Elements.{All-get_or}
use Rattle.std.proofs.Math.Seq.{get_or-append_seam}
use Rattle.task_sheet.proofs.Common.{CriticalSection, Task, IsSection, AreSections, IsValidSheet}
use Rattle.task_sheet.proofs.Common.{no_task, task_at, IsTaskSet}
use Rattle.ceiling_kernel.specs.declared.tasks.NodeSection.{NodeSection}
use Rattle.ceiling_kernel.specs.declared.tasks.NodeTask.{NodeTask}
use Rattle.ceiling_kernel.proofs.Common.{Node, held_ceiling, change_after, next_change, active_at}
use Rattle.ceiling_kernel.specs.NodeTasks.{IsSectionOf, AreSectionsOf, IsTaskOf, AreTasksOf}
use Rattle.ceiling_kernel.specs.States.{held_top}

pub held_top-is : (node : Node) (xs : List CriticalSection) (ss : List NodeSection) (e : ℕ)
    → AreSectionsOf node xs ss → held_top ss e ≡ held_ceiling node xs e
held_top-is node [] [] e h = refl
held_top-is node [] (s ∷ ss) e h = absurd h
held_top-is node (x ∷ xs) [] e h = absurd h
held_top-is node (x ∷ xs) (s ∷ ss) e h =
    let one : IsSectionOf node x s = h.0 in
    rw (held_top-is node xs ss e h.1, one.at, one.stop, one.top)

pub next_change-is : (node : Node) (xs : List CriticalSection) (ss : List NodeSection) (e limit : ℕ)
    → AreSectionsOf node xs ss → next_change ss e limit ≡ change_after xs e limit
next_change-is node [] [] e limit h = refl
next_change-is node [] (s ∷ ss) e limit h = absurd h
next_change-is node (x ∷ xs) [] e limit h = absurd h
next_change-is node (x ∷ xs) (s ∷ ss) e limit h =
    let one : IsSectionOf node x s = h.0 in
    rw (next_change-is node xs ss e limit h.1, one.at, one.stop)

pub active-is : (node : Node) (i e top : ℕ) (t : NodeTask) → IsTaskOf node i t
    → top ≡ held_top t.sections.items e → max t.level top ≡ active_at node i e
active-is node i e top t is held =
    let h = held ∙ held_top-is node (task_at node.tasks i).sections t.sections.items e
    is.sections in
    ap₂ max is.level h

pub sections-more : (node : Node) (xs : List CriticalSection) (x : CriticalSection)
    (ss : List NodeSection) (s : NodeSection) → AreSectionsOf node xs ss → IsSectionOf node x s
    → AreSectionsOf node (xs ++ x ∷ []) (ss ++ s ∷ [])
sections-more node [] x [] s h one = (one, tt)
sections-more node [] x (r ∷ ss) s h one = absurd h
sections-more node (y ∷ xs) x [] s h one = absurd h
sections-more node (y ∷ xs) x (r ∷ ss) s h one = (h.0, sections-more node xs x ss s h.1 one)

-- ---- as they are built, one after the other
pub sections-next : (node : Node) (secs : List CriticalSection) (k : ℕ) (d : CriticalSection)
    (kept items : List NodeSection) (s : NodeSection) → k < length secs → d ≡ get_or secs k d
    → items ≡ kept ++ s ∷ []
    → AreSectionsOf node (take k secs) kept → IsSectionOf node d s
    → AreSectionsOf node (take (k + 1) secs) items
sections-next node secs k d kept items s lt same e h one =
    let cut = take_more secs k d lt
    ∙ ap (λ x. take k secs ++ x ∷ []) (sym same) in
    subst (λ ss. AreSectionsOf node (take (k + 1) secs) ss) (sym e)
    (subst (λ xs. AreSectionsOf node xs (kept ++ s ∷ [])) (sym cut)
    (sections-more node (take k secs) d kept s h one))

pub tasks-next : (node : Node) (ts items : List NodeTask) (k : ℕ) (s : NodeTask) → length ts ≡ k
    → items ≡ ts ++ s ∷ [] → AreTasksOf node ts → IsTaskOf node k s → AreTasksOf node items
tasks-next node ts items k s count e h one i t lt read =
    let read' : t ≡ get_or (ts ++ s ∷ []) i t = read ∙ ap (λ x. get_or x i t) e in
    let lt' : i < length (ts ++ s ∷ []) = subst (λ x. i < length x) e lt in
    elim (cases_lt i (length ts)) [
      | inl before ↦ h i t before (read' ∙ get_or_append_left ts (s ∷ []) t i before)
      | inr past ↦
          let n : length (ts ++ s ∷ []) ≡ length ts + 1 = length-append ts (s ∷ []) in
          let here : i ≡ length ts = omega arith in
          let last = read'
          ∙ (ap (λ x. get_or (ts ++ s ∷ []) x t) here ∙ get_or-append_seam ts s [] t) in
          subst (λ x. IsTaskOf node x t) (sym (here ∙ count))
          (subst (λ x. IsTaskOf node k x) (sym last) one)
    ]

-- ---- the sheets of a set
pub item_at : (U xs : List Task) (k : ℕ) (d : Task) → xs ≡ U → k < length xs → d ≡ get_or xs k d
    → d ≡ task_at U k
item_at U xs k d same lt read = read
    ∙ (get_or_default xs k d no_task lt ∙ ap (λ x. get_or x k no_task) same)

pub valid_item : (U xs : List Task) (k : ℕ) (d : Task) → xs ≡ U → IsTaskSet U → k < length xs
    → d ≡ get_or xs k d → IsValidSheet d
valid_item U xs k d same set lt read =
    let lt' : k < length U = subst (λ x. k < length x) same lt in
    subst IsValidSheet (sym (item_at U xs k d same lt read))
    (All-get_or IsValidSheet U k no_task lt' set.valid)

sections_within : (begin cost : ℕ) (xs : List CriticalSection) → AreSections begin cost xs
    → (k : ℕ) (d : CriticalSection) → k < length xs
    → ((get_or xs k d).at + (get_or xs k d).len ≤ cost) × (0 < (get_or xs k d).len)
sections_within begin cost [] h k d lt = absurd (omega arith)
sections_within begin cost (x ∷ xs) h zero d lt =
    (let one : IsSection begin cost x = h.0 in (one.within, one.runs))
sections_within begin cost (x ∷ xs) h (suc k) d lt =
    sections_within (x.at + x.len) cost xs h.1 k d (omega arith)

pub sections_fit : (t : Task) (xs : List CriticalSection) → xs ≡ t.sections → IsValidSheet t
    → All (λ s. s.at + s.len < 2 ^ 64) xs
sections_fit t xs same v =
    let c : t.cost ≤ 10000000 = omega (arith, v.cost_to, v.period_to) in
    let all : All (λ s. s.at + s.len < 2 ^ 64) t.sections = λ k d lt.
    (let w = sections_within 0 t.cost t.sections v.sections k d lt in omega (arith, w.0)) in
    let P : List CriticalSection → Type 0 = λ x. All (λ s. s.at + s.len < 2 ^ 64) x in
    subst P (sym same) all

pub sections_run : (t : Task) (xs : List CriticalSection) → xs ≡ t.sections → IsValidSheet t
    → All (λ s. 0 < s.len) xs
sections_run t xs same v =
    let all : All (λ s. 0 < s.len) t.sections =
    λ k d lt. (sections_within 0 t.cost t.sections v.sections k d lt).1 in
    let P : List CriticalSection → Type 0 = λ x. All (λ s. 0 < s.len) x in
    subst P (sym same) all
