-- A task that must stand above some of the tasks above it, by a row of those above which it must stand.
use Rattle.std.proofs.Common.{◌≡◌, ℕ, ◌<◌, ◌≤◌, ◌&&◌, inl, inr, List, length, IsTrue, IsFalse, ◌∙◌}
use Rattle.std.proofs.Common.{sym, arith}
use Rattle.std.proofs.lemmas.Bool.{cases_Bool, and_parts, and_from, both_ways, ltb-true}
use Rattle.task_sheet.proofs.Common.{Task, Indexes, IsPart, meet, all_of, must_outrank, must_outrank_any}
use Rattle.task_sheet.proofs.Below.{some_below-at, some_below-witness}

-- the row has the tasks of the set above which task i must stand
abbrev pub IsRowOf : List Task → ℕ → Indexes → Type 0
IsRowOf U i row = (k : ℕ) → k < length U → row k ≡ must_outrank U i k

module _ (U : List Task) (i : ℕ) (row H : Indexes) (is : IsRowOf U i row) where
  pub meet_bound : length U ≤ 32 → IsPart H (all_of U) → meet row H ≡ must_outrank_any U i H
  unfolding meet must_outrank_any
  meet_bound few part = elim (cases_Bool (must_outrank_any U i H)) [
    | inl bound ↦
        let at = some_below-witness (length U) (λ k. H k && must_outrank U i k) bound in
        let both = and_parts _ _ at.2 in
        some_below-at 32 (λ k. row k && H k) at.0 (omega (arith, at.1))
        (and_from _ _ (is at.0 at.1 ∙ both.1) both.0) ∙ sym bound
    | inr free ↦ elim (cases_Bool (meet row H)) [
      | inl meets ↦
          let at = some_below-witness 32 (λ k. row k && H k) meets in
          let both = and_parts _ _ at.2 in
          let within = ltb-true at.0 (length U) (part at.0 both.1) in
          absurd (both_ways _ free (some_below-at (length U) (λ k. H k && must_outrank U i k) at.0
          within (and_from _ _ both.1 (sym (is at.0 within) ∙ both.0))))
      | inr apart ↦ apart ∙ sym free
    ]
  ]

  -- none of the tasks below n is in both
  abbrev pub NoneOver : ℕ → Type 0
  NoneOver n = (j : ℕ) → j < n → IsTrue (H j) → IsFalse (must_outrank U i j)

  pub none_over_all : NoneOver (length U) → IsFalse (must_outrank_any U i H)
  unfolding must_outrank_any
  none_over_all none = elim (cases_Bool (must_outrank_any U i H)) [
    | inl bound ↦
        let at = some_below-witness (length U) (λ k. H k && must_outrank U i k) bound in
        let both = and_parts _ _ at.2 in
        absurd (both_ways _ (none at.0 at.1 both.0) both.1)
    | inr free ↦ free
  ]
