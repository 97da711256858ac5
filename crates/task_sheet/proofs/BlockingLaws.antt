-- The blocking is the greatest length of the sections that block, and 0 where none does.
use Rattle.std.proofs.Common.{◌≡◌, ℕ, ◌≤◌, ◌⊎◌, inl, inr, cond, List, length, ◌∙◌, arith}
use Rattle.std.proofs.lemmas.Bool.{cases_Bool}
use Rattle.task_sheet.proofs.Common.{CriticalSection, Task, task_at, Indexes, with_index, reaches}
use Rattle.task_sheet.proofs.Common.{longest_reached, blocking_of}
use Rattle.task_sheet.specs.Demand.{Blocks}
use Rattle.task_sheet.proofs.Below.{le-greatest_below, greatest_below-some, le-greatest_of}
use Rattle.task_sheet.proofs.Below.{greatest_of-some}

pub blocking-above : (U : List Task) (i : ℕ) (H : Indexes) (s : CriticalSection) → Blocks U i H s
    → s.len ≤ blocking_of U i H
unfolding blocking_of
blocking-above U i H s b =
    let X = with_index H i in
    let f : ℕ → ℕ = λ k. cond (X k) 0 (longest_reached U X (task_at U k)) in
    let g : CriticalSection → ℕ = λ s. cond (reaches U X s) s.len 0 in
    let here : g s ≡ s.len = rw b.reached in
    let there : f b.task ≡ longest_reached U X (task_at U b.task) = rw b.outside in
    omega (
      arith,
      le-greatest_of g (task_at U b.task).sections b.section.0 s
          b.section.1 b.section.2,
      le-greatest_below (length U) f b.task b.in_set,
    )

pub blocking-some : (U : List Task) (i : ℕ) (H : Indexes) → (blocking_of U i H ≡ 0)
    ⊎ ((s : CriticalSection) × Blocks U i H s × (blocking_of U i H ≡ s.len))
unfolding blocking_of
blocking-some U i H =
    let X = with_index H i in
    let f : ℕ → ℕ = λ k. cond (X k) 0 (longest_reached U X (task_at U k)) in
    let g : CriticalSection → ℕ = λ s. cond (reaches U X s) s.len 0 in
    elim (greatest_below-some (length U) f) [
      | inl none ↦ inl none
      | inr some ↦ let k = some.0 in elim (cases_Bool (X k)) [
        | inl out ↦ inl (some.2 ∙ rw out)
        | inr outside ↦ let at : f k ≡ longest_reached U X (task_at U k) = rw outside in
            elim (greatest_of-some g (task_at U k).sections) [
              | inl none ↦ inl (some.2 ∙ at ∙ none)
              | inr longest ↦ elim (cases_Bool (reaches U X longest.0)) [
                | inl reached ↦ inr (
                  longest.0,
                  record {
                    task = k;
                    in_set = some.1;
                    outside =
                        outside;
                    section = longest.1;
                    reached = reached;
                  },
                  some.2 ∙ at ∙ longest.2 ∙ rw reached,
                )
                | inr not_so ↦ inl (some.2 ∙ at ∙ longest.2 ∙ rw not_so)
              ]
            ]
      ]
    ]
