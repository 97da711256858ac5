-- More tasks above mean no smaller demand: what a section no longer blocks, the interference of its task takes.
use Rattle.std.proofs.Common.{◌≡◌, ℕ, ◌+◌, ◌-◌, ◌<◌, ◌≤◌, true, cond, ◌==◌, inl, inr, List, length}
use Rattle.std.proofs.Common.{get_or, arith}
use Rattle.std.proofs.lemmas.Bool.{cases_Bool, and_parts, and_from, or_cases, or_parts, both_ways}
use Rattle.std.proofs.lemmas.List.Elements.{recursion_from_All}
use Rattle.task_sheet.proofs.Common.{Task, IsTask, AllTasks, no_task, task_at, Indexes, IsPart}
use Rattle.task_sheet.proofs.Common.{with_index, sum_below, reaches, longest_reached, blocking_of}
use Rattle.task_sheet.proofs.Common.{interference_of, demand_of}
use Rattle.task_sheet.proofs.Below.{cond-le, sum_below-le, sum_below-gap, greatest_below-le}
use Rattle.task_sheet.proofs.Below.{le-greatest_below, greatest_of-le, greatest_of-mono}
use Rattle.task_sheet.proofs.Below.{some_below-mono}
use Rattle.task_sheet.proofs.IndexLaws.{with_index-part}
use Rattle.task_sheet.proofs.Releases.{cost-le-interference}

longest_reached-part : (U : List Task) (X Y : Indexes) (x : Task) → IsPart X Y
    → longest_reached U X x ≤ longest_reached U Y x
longest_reached-part U X Y x part =
    greatest_of-mono _ _ x.sections (λ s. elim (cases_Bool (reaches U X s)) [
      | inl so ↦ let so' : reaches U Y s ≡ true = some_below-mono (length U) _ _
          (λ k e. let both = and_parts _ _ e in and_from _ _ (part k both.0) both.1) so in
          rw (so, so') (omega arith)
      | inr not_so ↦ rw not_so (omega arith)
    ])

-- no section is longer than its task's cost
pub longest_reached-le-cost : (U : List Task) (X : Indexes) (x : Task) → IsTask x
    → longest_reached U X x ≤ x.cost
longest_reached-le-cost U X x valid =
    greatest_of-le _ x.cost x.sections
    (recursion_from_All (λ s. cond (reaches U X s) s.len 0 ≤ x.cost) x.sections (λ k d lt.
    let within = valid.within k d lt in
    let short : (get_or x.sections k d).len ≤ x.cost = omega arith in
    cond-le _ _ 0 x.cost short (omega arith)))

-- the terms of the demand's two parts
abbrev pub term : List Task → ℕ → Indexes → ℕ → ℕ
term U t X h = cond (X h) (interference_of (task_at U h) t) 0

abbrev block : List Task → ℕ → Indexes → ℕ → ℕ
block U i X k = cond (with_index X i k) 0 (longest_reached U (with_index X i) (task_at U k))

module _ (U : List Task) (valid : AllTasks U) (i : ℕ) (H G : Indexes) (part : IsPart H G) (t : ℕ)
    (positive : 1 ≤ t) where
  term-le : (h : ℕ) → term U t H h ≤ term U t G h
  term-le h = elim (cases_Bool (H h)) [
    | inl above ↦ let above' : G h ≡ true = part h above in rw (above, above') (omega arith)
    | inr below ↦ rw below (omega arith)
  ]

  -- what a section no longer blocks, its task's releases take
  block-le : (k : ℕ) → k < length U → block U i H k + sum_below (length U) (term U t H)
      ≤ blocking_of U i G + sum_below (length U) (term U t G)
  unfolding demand_of blocking_of
  block-le k lt =
      let terms = sum_below-le (length U) (term U t H) (term U t G) (λ h _. term-le h) in
      elim (cases_Bool (with_index H i k)) [
        | inl out ↦ rw out (omega arith)
        | inr blocks ↦ rw blocks (elim (cases_Bool (with_index G i k)) [
          | inl joins ↦
              let apart = or_parts (k == i) (H k) blocks in
              let joined : G k ≡ true = elim (or_cases (k == i) (G k) joins) [
                | inl same ↦
                    absurd (both_ways (k == i) apart.0 same)
                | inr r ↦ r
              ] in
              let none : term U t H k ≡ 0 = rw apart.1 in
              let here : term U t G k ≡ interference_of (task_at U k) t = rw joined in
              let task = valid k no_task lt in
              omega (
                arith,
                sum_below-gap (length U) (term U t H) (term U t G) k term-le lt none,
                cost-le-interference (task_at U k) t task.period positive,
                longest_reached-le-cost U
                    (with_index H i) (task_at U k) task,
              )
          | inr stays ↦
              let before : block U i G k ≡ longest_reached U (with_index G i) (task_at U k) =
              rw stays in
              omega (
                arith,
                longest_reached-part U (with_index H i) (with_index G i) (task_at U k)
                    (with_index-part H G i part),
                le-greatest_below (length U) (block U i G) k lt,
              )
        ])
      ]

  pub demand-part : demand_of U i H t ≤ demand_of U i G t
  unfolding demand_of blocking_of
  demand-part =
      let terms = sum_below-le (length U) (term U t H) (term U t G) (λ h _. term-le h) in
      let gap = (blocking_of U i G + sum_below (length U) (term U t G)) - sum_below (length U)
      (term U t H) in
      let blocks : blocking_of U i H ≤ gap =
      greatest_below-le (length U) (block U i H) gap (λ k lt. omega (arith, block-le k lt)) in
      omega arith
