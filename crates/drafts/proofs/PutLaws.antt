-- Changes of which one is a put come to some task.
use Rattle.std.proofs.Common.{◌≡◌, ◌∙◌, ℕ, ◌+◌, ◌<◌, drop, slice_get, add-one, inl, inr, true}
use Rattle.std.proofs.Common.{false, ◌||◌, nat_le, List, [], ◌∷◌, length, Option, Some, Result, Ok}
use Rattle.std.proofs.Common.{Err, refl, sym, ap, subst, arith}
use Rattle.std.specs.List.{AllByRecursion, IsDistinct}
use Rattle.std.specs.Map.{keys_of}
use Rattle.std.proofs.lemmas.Bool.{cases_Bool, both_ways}
use Rattle.std.proofs.lemmas.Slice.Eq.{bytes_eq-Decides}
use Rattle.task_sheet.specs.Sheet.{Task, same_bytes}
use Rattle.drafts.specs.declared.roster.Owned.{Owned}
use Rattle.drafts.specs.declared.change.Change.{Change}
use Rattle.drafts.specs.declared.change.Change.TheVariants.{Put, Remove}
use Rattle.drafts.specs.declared.change.Refusal.{Refusal}
use Rattle.drafts.specs.declared.interrupts.TeamInterrupt.{TeamInterrupt}
use Rattle.drafts.specs.Applied.{OnNode, bare, held, is_there, is_foreign, with_task, without_name}
use Rattle.drafts.specs.Applied.{after_change, then_on, all_changes, interrupts_after, if_few, applied}
use Rattle.drafts.specs.Edits.{IsNamed, AreNamed, HasTasks, is_put, has_put}
use Rattle.drafts.proofs.RosterLaws.{drop-at}
use Rattle.drafts.proofs.ReachedLaws.{held-with, held-with_other, held-without_other}

-- what a first step and the rest come to, the first step comes to something
pub then-ok : {B : Type 0} (r : Result (List Owned) Refusal) (f : List Owned → Result B Refusal)
    (last : B) → then_on r f ≡ Ok last → (next : List Owned) × (r ≡ Ok next) × (f next ≡ Ok last)
then-ok (Ok next) f last is = (next, refl, is)
then-ok (Err refusal) f last is = absurd (cc)

-- few tasks and interrupts stand on the node as they are
pub few-node : (xs : List TeamInterrupt) (ts : List Owned) (last : OnNode) → if_few xs ts ≡ Ok last
    → (let node : OnNode = record { tasks = ts; interrupts = xs } in node) ≡ last
few-node xs ts last is = elim (cases_Bool (nat_le (length ts) 32)) [
  | inl fits ↦ elim (cases_Bool (nat_le (length xs) 8)) [
    | inl some ↦ let e : Ok (let node : OnNode = record { tasks = ts; interrupts = xs } in node)
        ≡ Ok last = (rw (fits, some) at is) in cc
    | inr many ↦ let e : Err Refusal.TooManyInterrupts ≡ Ok last = (rw (fits, many) at is) in
        absurd (cc)
  ]
  | inr many ↦ let e : Err Refusal.TooManyTasks ≡ Ok last = (rw many at is) in absurd (cc)
]

-- what changes that are not refused come to
pub applied-node : (team : ℕ) (node last : OnNode) (changes : List (List ℕ × Change))
    → applied team node changes ≡ Ok last → (all_changes team node.tasks changes ≡ Ok last.tasks)
    × (last.interrupts ≡ interrupts_after team node.interrupts changes)
applied-node team node last changes is =
    let xs = interrupts_after team node.interrupts changes in
    let made = then-ok (all_changes team node.tasks changes) (if_few xs) last is in
    let same = few-node xs made.0 last made.2 in (
      made.1 ∙ ap (λ (n : OnNode). Ok n.tasks) same,
      sym (ap (λ (n : OnNode). n.interrupts) same),
    )

-- ---- whether one is a put, change by change
pub put_step : (changes : List (List ℕ × Change)) (i : ℕ) (name : List ℕ) (change : Change)
    → slice_get changes i ≡ Some (name, change)
    → has_put (drop i changes) ≡ (is_put change || has_put (drop (i + 1) changes))
put_step changes i name change at = rw (add-one, drop-at changes i (name, change) at) refl

module _ (team : ℕ) where
  -- what a put leaves
  pub put-made : (tasks next : List Owned) (name : List ℕ) (sheet : Task)
      → after_change team tasks name (Put sheet) ≡ Ok next
      → (is_foreign team (held sheet.name tasks) ≡ false)
      × (next ≡ with_task sheet.name (record { sheet = bare sheet; team = team }) tasks)
  put-made tasks next name sheet is = elim (cases_Bool (is_foreign team (held sheet.name tasks))) [
    | inl foreign ↦ let no : Err (Refusal.NotYours sheet.name) ≡ Ok next = (rw foreign at is) in
        absurd (cc)
    | inr own ↦ let yes : Ok (with_task sheet.name (record { sheet = bare sheet; team = team }) tasks)
        ≡ Ok next = (rw own at is) in (own, cc)
  ]

  -- and what a remove leaves
  pub remove-made : (tasks next : List Owned) (name : List ℕ)
      → after_change team tasks name Remove ≡ Ok next
      → (is_foreign team (held name tasks) ≡ false) × (is_there (held name tasks) ≡ true)
      × (next ≡ without_name name tasks)
  remove-made tasks next name is = elim (cases_Bool (is_foreign team (held name tasks))) [
    | inl foreign ↦ let no : Err (Refusal.NotYours name) ≡ Ok next = (rw foreign at is) in
        absurd (cc)
    | inr own ↦ elim (cases_Bool (is_there (held name tasks))) [
      | inl there ↦ let yes : Ok (without_name name tasks) ≡ Ok next = (rw (own, there) at is) in
          (own, there, cc)
      | inr gone ↦ let no : Err (Refusal.NoSuchTask name) ≡ Ok next = (rw (own, gone) at is) in
          absurd (cc)
    ]
  ]

  -- ---- a name that is held stays so under changes on others
  away : (m n : List ℕ) → same_bytes m n ≡ false → n ≡ m → ⊥
  away m n apart e = both_ways (same_bytes m n) apart ((bytes_eq-Decides m n).1 (sym e))

  stays-one : (tasks next : List Owned) (m name : List ℕ) (change : Change)
      → same_bytes m name ≡ false → IsNamed name change → is_there (held m tasks) ≡ true
      → after_change team tasks name change ≡ Ok next → is_there (held m next) ≡ true
  stays-one tasks next m name (Put sheet) apart named there is =
      let made = put-made tasks next name sheet is in
      let o : Owned = record { sheet = bare sheet; team = team } in
      let other : sheet.name ≡ m → ⊥ = λ e. away m name apart (sym named ∙ e) in
      ap (λ ts. is_there (held m ts)) made.1 ∙ ap (λ (x : Option Owned). is_there x)
      (held-with_other sheet.name m o tasks refl other) ∙ there
  stays-one tasks next m name Remove apart named there is =
      let made = remove-made tasks next name is in
      ap (λ ts. is_there (held m ts)) made.2 ∙ ap (λ (x : Option Owned). is_there x)
      (held-without_other name m tasks (away m name apart)) ∙ there

  stays : (tasks last : List Owned) (m : List ℕ) (changes : List (List ℕ × Change))
      → AllByRecursion (λ n. same_bytes m n ≡ false) (keys_of changes) → AreNamed changes
      → is_there (held m tasks) ≡ true → all_changes team tasks changes ≡ Ok last
      → is_there (held m last) ≡ true
  stays tasks last m [] apart named there is = let e : tasks ≡ last = cc in
      subst (λ ts. is_there (held m ts) ≡ true) e there
  stays tasks last m (c ∷ changes) apart named there is =
      let made = then-ok (after_change team tasks c.0 c.1) (λ next. all_changes team next changes)
      last is in
      stays made.0 last m changes apart.1 named.1
      (stays-one tasks made.0 m c.0 c.1 apart.0 named.0 there made.1) made.2

  -- ---- a put's name is held at the end
  put-there : (tasks next : List Owned) (name : List ℕ) (change : Change) → is_put change ≡ true
      → IsNamed name change → after_change team tasks name change ≡ Ok next
      → is_there (held name next) ≡ true
  put-there tasks next name (Put sheet) put named is =
      let made = put-made tasks next name sheet is in
      let o : Owned = record { sheet = bare sheet; team = team } in
      ap (λ ts. is_there (held name ts)) made.1
      ∙ ap (λ n. is_there (held n (with_task sheet.name o tasks))) (sym named)
      ∙ ap (λ (x : Option Owned). is_there x) (held-with sheet.name o tasks refl)
  put-there tasks next name Remove put named is = absurd (both_ways false refl put)

  held-last : (tasks last : List Owned) (changes : List (List ℕ × Change))
      → IsDistinct same_bytes (keys_of changes) → AreNamed changes → has_put changes ≡ true
      → all_changes team tasks changes ≡ Ok last → (m : List ℕ) × (is_there (held m last) ≡ true)
  unfolding IsDistinct
  held-last tasks last [] apart named put is = absurd (both_ways false refl put)
  held-last tasks last (c ∷ changes) apart named put is =
      let made = then-ok (after_change team tasks c.0 c.1) (λ next. all_changes team next changes)
      last is in
      elim (cases_Bool (is_put c.1)) [
        | inl here ↦ (
          c.0,
          stays made.0 last c.0 changes apart.0 named.1
              (put-there tasks made.0 c.0 c.1 here named.0 made.1) made.2,
        )
        | inr later ↦ held-last made.0 last changes apart.1 named.1 (rw later at put) made.2
      ]

  some-task : (m : List ℕ) (tasks : List Owned) → is_there (held m tasks) ≡ true → 0 < length tasks
  some-task m [] there = absurd (both_ways false refl there)
  some-task m (x ∷ tasks) there = omega arith

  few_tasks : (xs : List TeamInterrupt) (r : Result (List Owned) Refusal)
      → ((last : List Owned) → r ≡ Ok last → 0 < length last) → HasTasks (then_on r (if_few xs))
  few_tasks xs (Err refusal) some = tt
  few_tasks xs (Ok last) some = elim (cases_Bool (nat_le (length last) 32)) [
    | inl few ↦ elim (cases_Bool (nat_le (length xs) 8)) [
      | inl fits ↦ rw (few, fits) (some last refl)
      | inr many ↦ rw (few, many) tt
    ]
    | inr many ↦ rw many tt
  ]

  pub put_tasks : (node : OnNode) (changes : List (List ℕ × Change))
      → IsDistinct same_bytes (keys_of changes) → AreNamed changes → has_put changes ≡ true
      → HasTasks (applied team node changes)
  put_tasks node changes apart named put =
      few_tasks (interrupts_after team node.interrupts changes)
      (all_changes team node.tasks changes) (λ last is. let h =
      held-last node.tasks last changes apart named put is in some-task h.0 last h.1)
