-- The test finds the chosen one, and what the levels are.
use Rattle.std.proofs.Common.{◌≡◌, ℕ, zero, suc, ◌<◌, ◌≤◌, inl, inr, Bool, true, false, ◌&&◌, List}
use Rattle.std.proofs.Common.{length, Option, None, Some, refl, sym, ◌∙◌, ap, arith}
use Rattle.std.specs.Ordering.{nat_cmp}
use Rattle.std.specs.FinSet as members
use Rattle.std.proofs.lemmas.Bool.{cases_eq, and_parts, and_from, false_from_ne_true, ltb-true}
use Rattle.task_sheet.proofs.Common.{Task, Indexes, indexes_of, IsPart, without_index, all_of}
use Rattle.task_sheet.proofs.Common.{Stands, IsChosen, NoneStands, does_stand, level_at}
use Rattle.task_sheet.specs.Choices.{least_below, chosen_of, without_chosen}
use Rattle.task_sheet.proofs.PassingLaws.{does_stand-iff}
use Rattle.task_sheet.proofs.IndexLaws.{without-parts}
use Rattle.task_sheet.proofs.MembersIndexes.{indexes_of-all_below, indexes_of-remove}

least_below-none : (n : ℕ) (p : ℕ → Bool) → ((j : ℕ) → j < n → p j ≡ false) → least_below n p ≡ None
least_below-none zero p none = refl
least_below-none (suc n) p none =
    rw (least_below-none n p (λ j lt. none j (omega arith)), none n (omega arith)) refl

least_below-is : (n : ℕ) (p : ℕ → Bool) (i : ℕ) → i < n → p i ≡ true
    → ((j : ℕ) → j < i → p j ≡ false) → least_below n p ≡ Some i
least_below-is zero p i lt is first = absurd (omega arith)
least_below-is (suc n) p i lt is first =
    elim (cases_eq i n) [
      | inl e ↦
          let here : p n ≡ true = ap p (sym e) ∙ is in
          rw (least_below-none n p (λ j below. first j (omega arith)), here)
          (ap (λ k. Some k) (sym e))
      | inr ne ↦ rw (least_below-is n p i (omega arith) is first) refl
    ]

-- ---- the candidate that is chosen
fits-not : (U : List Task) (L : Indexes) (j : ℕ) → (L j ≡ true → ¬ Stands U j (without_index L j))
    → (L j && does_stand U j (without_index L j)) ≡ false
fits-not U L j never = false_from_ne_true _ (λ so.
    let both = and_parts (L j) _ so in
    never both.0 ((does_stand-iff U j (without_index L j)).0 both.1))

pub chosen_of-is : (U : List Task) (L : Indexes) (i : ℕ) → IsPart L (all_of U) → IsChosen U L i
    → chosen_of U L ≡ Some i
unfolding chosen_of
chosen_of-is U L i part chosen =
    least_below-is (length U) (λ j. L j && does_stand U j (without_index L j)) i
    (ltb-true i (length U) (part i chosen.member))
    (and_from (L i) _ chosen.member ((does_stand-iff U i (without_index L i)).1 chosen.stands))
    (λ j lt. fits-not U L j (chosen.first j lt))

pub chosen_of-none : (U : List Task) (L : Indexes) → NoneStands U L → chosen_of U L ≡ None
unfolding chosen_of
chosen_of-none U L none = least_below-none (length U)
    (λ j. L j && does_stand U j (without_index L j)) (λ j lt. fits-not U L j (none j))

-- ---- the levels
pub level_at-next : (U : List Task) (k i : ℕ) (left : members.FinSet nat_cmp) → left ≡ level_at U k
    → IsPart (indexes_of left) (all_of U) → IsChosen U (indexes_of left) i
    → level_at U (suc k) ≡ members.remove left i
unfolding level_at
level_at-next U k i left same part chosen =
    ap (λ (m : members.FinSet nat_cmp). without_chosen m (chosen_of U (indexes_of m))) (sym same)
    ∙ rw (chosen_of-is U (indexes_of left) i part chosen) refl

-- where none may stand, it stays
pub level_at-stays : (U : List Task) (k : ℕ) → NoneStands U (indexes_of (level_at U k)) → (j : ℕ)
    → k ≤ j → level_at U j ≡ level_at U k
unfolding level_at
level_at-stays U k none zero le = let e : zero ≡ k = omega arith in ap (λ n. level_at U n) e
level_at-stays U k none (suc j) le =
    elim (cases_eq k (suc j)) [
      | inl e ↦ ap (λ n. level_at U n) (sym e)
      | inr ne ↦
          let before : level_at U j ≡ level_at U k = level_at-stays U k none j (omega arith) in
          rw (before, chosen_of-none U (indexes_of (level_at U k)) none) refl
    ]

-- ---- each level is part of the set
without_chosen-part : (U : List Task) (left : members.FinSet nat_cmp) (o : Option ℕ)
    → IsPart (indexes_of left) (all_of U) → IsPart (indexes_of (without_chosen left o)) (all_of U)
without_chosen-part U left None part = part
without_chosen-part U left (Some i) part = λ k h. part k
    (without-parts (indexes_of left) i k (ap (λ X. X k) (sym (indexes_of-remove left i)) ∙ h)).0

pub level_at-part : (U : List Task) (k : ℕ) → IsPart (indexes_of (level_at U k)) (all_of U)
unfolding level_at
level_at-part U zero = λ k h. ap (λ X. X k) (sym (indexes_of-all_below (length U))) ∙ h
level_at-part U (suc k) = without_chosen-part U (level_at U k)
    (chosen_of U (indexes_of (level_at U k))) (level_at-part U k)
