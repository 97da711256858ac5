-- Levels from the lowest up: what they leave, and the best order that they make.
use Rattle.std.proofs.Common.{◌≡◌, ℕ, ◌⊎◌, inl, inr, false, List, [], ◌∷◌, ◌++◌, refl, sym, ◌∙◌, ap}
use Rattle.std.proofs.Common.{subst, arith}
use Rattle.std.proofs.lemmas.Bool.{cases_order, cond-true}
use Rattle.task_sheet.proofs.Common.{Task, Indexes, IsPart, without_index, all_of, Stands}
use Rattle.task_sheet.proofs.Common.{IsOrderOf, AllStand, IsBetter, IsBest, IsChosen, left_after}
use Rattle.task_sheet.proofs.Common.{AllChosen}
use Rattle.task_sheet.proofs.IndexLaws.{without-parts, IsOrderOf-among, IsOrderOf-head}
use Rattle.task_sheet.proofs.IndexLaws.{IsOrderOf-rest, IsOrderOf-cons}

-- ---- what is left
pub left_after-part : (L : Indexes) (placed : List ℕ) → IsPart (left_after L placed) L
left_after-part L [] k h = h
left_after-part L (i ∷ placed) k h =
    (without-parts L i k (left_after-part (without_index L i) placed k h)).0

pub left_after-push : (L : Indexes) (placed : List ℕ) (i : ℕ)
    → left_after L (placed ++ i ∷ []) ≡ without_index (left_after L placed) i
left_after-push L [] i = refl
left_after-push L (j ∷ placed) i = left_after-push (without_index L j) placed i

-- an order leaves nothing
pub left_after-order : (L : Indexes) (order : List ℕ) → IsOrderOf L order → (k : ℕ)
    → left_after L order k ≡ false
left_after-order L [] each k = ap (λ X. X k) (sym (IsOrderOf-among L [] each))
left_after-order L (i ∷ above) each k =
    left_after-order (without_index L i) above (IsOrderOf-rest L i above each) k

pub AllChosen-push : (U : List Task) (L : Indexes) (placed : List ℕ) (i : ℕ) → AllChosen U L placed
    → IsChosen U (left_after L placed) i
    → AllChosen U L (placed ++ i ∷ [])
AllChosen-push U L [] i chosen next = (next, tt)
AllChosen-push U L (j ∷ placed) i chosen next =
    (chosen.0, AllChosen-push U (without_index L j) placed i chosen.1 next)

-- ---- the order of the chosen
AllChosen-order : (U : List Task) (L : Indexes) (order : List ℕ) → AllChosen U L order
    → ((k : ℕ) → left_after L order k ≡ false)
    → IsOrderOf L order × AllStand U order
AllChosen-order U L [] chosen none = ((λ k. rw (none k)), tt)
AllChosen-order U L (i ∷ above) chosen none =
    let rest = AllChosen-order U (without_index L i) above chosen.1 none in
    let same = IsOrderOf-among (without_index L i) above rest.0 in (
      IsOrderOf-cons L i above chosen.0.member rest.0,
      (subst (λ X. Stands U i X) (sym same) chosen.0.stands, rest.1),
    )

AllChosen-unbeaten : (U : List Task) (L : Indexes) (order other : List ℕ) → AllChosen U L order
    → IsOrderOf L other → AllStand U other → ¬ IsBetter other order
AllChosen-unbeaten U L [] [] chosen each all better = better
AllChosen-unbeaten U L [] (x ∷ xs) chosen each all better = better
AllChosen-unbeaten U L (y ∷ ys) [] chosen each all better = better
AllChosen-unbeaten U L (y ∷ ys) (x ∷ xs) chosen each all better =
    let rest = IsOrderOf-rest L x xs each in
    elim better [
      | inl lt ↦ chosen.0.first x lt (IsOrderOf-head L x xs each)
          (subst (λ X. Stands U x X) (IsOrderOf-among (without_index L x) xs rest) all.0)
      | inr later ↦ AllChosen-unbeaten U (without_index L y) ys xs chosen.1
          (subst (λ j. IsOrderOf (without_index L j) xs) later.0 rest) all.1 later.1
    ]

pub AllChosen-best : (U : List Task) (order : List ℕ) → AllChosen U (all_of U) order
    → ((k : ℕ) → left_after (all_of U) order k ≡ false) → IsBest U order
AllChosen-best U order chosen none =
    let both = AllChosen-order U (all_of U) order chosen none in
    record {
      passing = record { each_once = both.0; each_stands = both.1 };
      unbeaten = λ other passing. AllChosen-unbeaten U (all_of U) order other chosen
          passing.each_once passing.each_stands;
    }

-- ---- two orders of one set are the same, or one is better
pub compare_orders : (L : Indexes) (xs ys : List ℕ) → IsOrderOf L xs → IsOrderOf L ys → (xs ≡ ys)
    ⊎ (IsBetter xs ys ⊎ IsBetter ys xs)
compare_orders L [] [] first second = inl refl
compare_orders L [] (y ∷ ys) first second =
    absurd (omega (arith, first y, cond-true {A = ℕ} (L y) 1 0 (IsOrderOf-head L y ys second)))
compare_orders L (x ∷ xs) [] first second =
    absurd (omega (arith, second x, cond-true {A = ℕ} (L x) 1 0 (IsOrderOf-head L x xs first)))
compare_orders L (x ∷ xs) (y ∷ ys) first second =
    elim (cases_order x y) [
      | inl e ↦ elim (compare_orders (without_index L x) xs ys (IsOrderOf-rest L x xs first)
          (subst (λ j. IsOrderOf (without_index L j) ys) (sym e) (IsOrderOf-rest L y ys second))) [
            | inl same ↦ inl (ap (λ z. z ∷ xs) e ∙ ap (λ zs. y ∷ zs) same)
            | inr either ↦ elim either [
              | inl better ↦ inr (inl (inr (e, better)))
              | inr better ↦ inr (inr (inr (sym e, better)))
            ]
          ]
      | inr apart ↦ elim apart [ inl lt ↦ inr (inl (inl lt)) | inr lt ↦ inr (inr (inl lt)) ]
    ]

pub IsBest-one : (U : List Task) (xs ys : List ℕ) → IsBest U xs → IsBest U ys → xs ≡ ys
IsBest-one U xs ys first second =
    elim (compare_orders (all_of U) xs ys first.passing.each_once second.passing.each_once) [
      | inl same ↦ same
      | inr either ↦ elim either [
        | inl better ↦ absurd (second.unbeaten xs first.passing better)
        | inr better ↦ absurd (first.unbeaten ys second.passing better)
      ]
    ]
