-- The iteration of a demand from a number below which none covers it.
use Rattle.std.proofs.Common.{◌≡◌, ℕ, zero, suc, inl, inr, ◌+◌, ◌<◌, ◌≤◌, ◌⊎◌, ◌∙◌, ap, arith}
use Rattle.std.proofs.lemmas.Bool.{cases_lt, cases_eq}
use Rattle.task_sheet.specs.Responses.{IsResponse}
use Rattle.task_sheet.proofs.ResponseLaws.{DoesNotFall, IsResponse-one, Covers-iff_response}
use Rattle.response_time.specs.Starts.{iterate_from}

module _ (W : ℕ → ℕ) (steady : DoesNotFall W) where
  -- the least number that covers its demand is the response
  pub first_cover_is_response : (t : ℕ) → 1 ≤ t → W t ≤ t → ((s : ℕ) → 1 ≤ s → W s ≤ s → t ≤ s)
      → IsResponse W t
  first_cover_is_response t pos covers first = record {
    positive = pos;
    fixed =
        let again : W (W t) ≤ W t = steady.rises (W t) t covers in
        let least = first (W t) (steady.positive t) again in
        omega (arith, covers, least);
    least = λ s some e. first s some (omega (arith, e));
  }

  -- below the response no number covers its demand
  short_below : (r s : ℕ) → IsResponse W r → 1 ≤ s → s < r → s < W s
  short_below r s is pos lt = elim (cases_lt s (W s)) [
    | inl short ↦ short
    | inr covers ↦
        let found = (Covers-iff_response W steady s).0 (s, pos, omega arith, covers) in
        absurd (omega (arith, IsResponse-one W r found.0 is found.1, found.2, lt))
  ]

  -- the numbers climb to the response, and stay
  climbs_to : (r a : ℕ) → IsResponse W r → a ≤ r → (k : ℕ)
      → (iterate_from W a k ≤ r) × ((iterate_from W a k ≡ r) ⊎ (a + k ≤ iterate_from W a k))
  climbs_to r a is le zero = (le, inr (omega arith))
  climbs_to r a is le (suc k) =
      let before = climbs_to r a is le k in
      let x = iterate_from W a k in
      let up : W x ≤ W r = steady.rises x r before.0 in (
        omega (arith, up, is.fixed),
        elim before.1 [
          | inl there ↦ inl (ap W there ∙ is.fixed)
          | inr far ↦ elim (cases_eq x r) [
            | inl there ↦ inl (ap W there ∙ is.fixed)
            | inr ne ↦ elim (cases_lt 0 x) [
              | inl pos ↦
                  inr (omega (arith, short_below r x is pos (omega (arith, before.0, ne)), far))
              | inr none ↦ inr (omega (arith, steady.positive x, far, none))
            ]
          ]
        ],
      )

  pub comes_to_response : (r a : ℕ) → IsResponse W r → a ≤ r → (k : ℕ) → r ≤ k
      → iterate_from W a k ≡ r
  comes_to_response r a is le k long =
      let at = climbs_to r a is le k in
      elim at.1 [
        | inl there ↦ there
        | inr far ↦ omega (arith, at.0, far, long)
      ]
