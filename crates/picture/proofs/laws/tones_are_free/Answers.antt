use Rattle.std.proofs.Common.{◌≡◌, ◌∙◌, inl, inr, ℕ, zero, suc, ◌+◌, ◌<◌, ◌≤◌, List, Option, Some, None, true, false}
use Rattle.std.proofs.Common.{arith, refl, sym}
use Rattle.std.specs.Prelude.{◌-◌}
use Rattle.std.specs.Option.{unwrap_or}
use Rattle.std.proofs.lemmas.Bool.{cases_Bool, cases_eq, cases_lt, false≢true}
use Rattle.std.proofs.lemmas.Option.{none-some, same_Some}
use Rattle.frames.specs.Tones.{first_free, has_tone}
use Rattle.frames.specs.declared.tones.Toned.{Toned}
use Rattle.picture.proofs.laws.tones_are_free.Goals as goal

-- where none is free, each is taken
none_free : (given : List Toned) (from count : ℕ) → first_free given from count ≡ None
    → (tone : ℕ) → from ≤ tone → tone < from + count → has_tone given tone ≡ true
none_free given from zero none tone least most = absurd (omega (arith, least, most))
none_free given from (suc count) none tone least most =
    elim (cases_Bool (has_tone given from)) [
      | inl taken ↦ elim (cases_eq from tone) [
        | inl same ↦ rw (← same) taken
        | inr other ↦ none_free given (from + 1) count (rw taken at none) tone
            (omega (arith, least, other)) (omega (arith, most))
      ]
      | inr free ↦ absurd (none-some from (sym (rw free at none)))
    ]

-- a free one isn't taken
some_free : (given : List Toned) (from count tone : ℕ) → first_free given from count ≡ Some tone
    → has_tone given tone ≡ false
some_free given from zero tone is = absurd (none-some tone is)
some_free given from (suc count) tone is = elim (cases_Bool (has_tone given from)) [
  | inl taken ↦ some_free given (from + 1) count tone (rw taken at is)
  | inr free ↦ rw (← same_Some from tone (rw free at is)) free
]

-- a tone that is found, of those from one on or below it
all_taken : (given : List Toned) (own count : ℕ) (above below : Option ℕ)
    → first_free given own (count - own) ≡ above → first_free given 0 own ≡ below → own < count
    → has_tone given (unwrap_or above (unwrap_or below own)) ≡ true
    → (tone : ℕ) → tone < count → has_tone given tone ≡ true
all_taken given own count (Some t) below one two lt taken =
    absurd (false≢true (sym (some_free given own (count - own) t one) ∙ taken))
all_taken given own count None (Some t) one two lt taken =
    absurd (false≢true (sym (some_free given 0 own t two) ∙ taken))
all_taken given own count None None one two lt taken = λ tone within. elim (cases_lt tone own) [
  | inl less ↦ none_free given 0 own two tone (omega arith) (omega (arith, less))
  | inr past ↦ none_free given own (count - own) one tone past (omega (arith, within, lt, past))
]

pub returns : goal.returns
returns c = λ given own count lt taken.
    all_taken given own count (first_free given own (count - own)) (first_free given 0 own) refl
    refl lt taken
