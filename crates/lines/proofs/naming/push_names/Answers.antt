use Rattle.std.proofs.Common.{◌≡◌, ◌+◌, ◌++◌, ◌∙◌, List, [], ◌∷◌, ℕ, IsTrue, IsFalse, add-one}
use Rattle.std.proofs.Common.{codes, ap, sym, append_assoc, append-nil, string_bytes}
use Rattle.task_sheet.proofs.Common.{Task, Indexes, indexes_of, listed_below}
use Rattle.lines.specs.Naming.{name_at, named}
use Rattle.lines.proofs.naming.push_names.Goals as goal
use Rattle.lines.proofs.naming.push_names.Goals.{then-has+in_ok-push_str+in_ok-push_name, else-has}

named_push : (U : List Task) (tasks : List ℕ) (task : ℕ)
    → named U (tasks ++ task ∷ []) ≡ named U tasks ++ (codes " " ++ name_at U task)
named_push U [] task = append-nil (codes " " ++ name_at U task)
named_push U (first ∷ tasks) task =
    ap (λ (rest : List ℕ). (codes " " ++ name_at U first) ++ rest) (named_push U tasks task)
    ∙ sym (append_assoc (codes " " ++ name_at U first) (named U tasks)
    (codes " " ++ name_at U task))

listed-member : (n : ℕ) (L : Indexes) → IsTrue (L n)
    → listed_below (n + 1) L ≡ listed_below n L ++ n ∷ []
listed-member n L member = rw add-one (rw member)

listed-other : (n : ℕ) (L : Indexes) → IsFalse (L n) → listed_below (n + 1) L ≡ listed_below n L
listed-other n L other = rw add-one (rw other)

pub loop-task-preserved : goal.loop-task-preserved
loop-task-preserved c =
    let U = c.args.set.now in
    let L = indexes_of c.args.tasks in
    let i = c.loop-task.task in
    let before : List ℕ = string_bytes c.args.text.now in
    elim c.if-has.branch [
      | then-has+in_ok-push_str+in_ok-push_name w ↦
          let listed = listed-member i L (sym c.has.ensures ∙ w.if-has.true) in
          ap string_bytes w.text-is ∙ w.in_ok-push_name.ensures
          ∙ ap (λ (t : List ℕ). t ++ name_at U i) (w.in_ok-push_str.ensures.bytes
          ∙ ap (λ (t : List ℕ). t ++ codes " ") c.loop-task.invariant)
          ∙ append_assoc (before ++ named U (listed_below i L)) (codes " ") (name_at U i)
          ∙ append_assoc before (named U (listed_below i L)) (codes " " ++ name_at U i)
          ∙ ap (λ (t : List ℕ). before ++ t) (sym (named_push U (listed_below i L) i))
          ∙ ap (λ (tasks : List ℕ). before ++ named U tasks) (sym listed)
      | else-has w ↦
          ap string_bytes w.text-is ∙ c.loop-task.invariant
          ∙ ap (λ (tasks : List ℕ). before ++ named U tasks)
          (sym (listed-other i L (sym c.has.ensures ∙ w.if-has.false)))
    ]
