-- The order below the others of a minimal conflict, made from the lowest task up.
use Rattle.std.proofs.Common.{◌≡◌, ◌∙◌, ℕ, ◌+◌, Bool, true, false, ◌&&◌, ◌==◌, not, cond}
use Rattle.std.proofs.Common.{List, [], ◌∷◌, ◌++◌, length, refl, sym, ap, subst, arith}
use Rattle.std.proofs.lemmas.Bool.{and_parts, false_from_ne_true, true≢false}
use Rattle.std.proofs.lemmas.List.{append_assoc}
use Rattle.std.proofs.lemmas.List.Sums.{sum_by-append}
use Rattle.std.specs.Ordering.{nat_cmp}
use Rattle.std.specs.FinSet as members
use Rattle.task_sheet.proofs.Common.{Task, Indexes, indexes_of, listed_below, without_index, IsPart}
use Rattle.task_sheet.proofs.Common.{all_of, AllStand, IsOrder, IsOrderOf, Stands, NoneStands}
use Rattle.task_sheet.proofs.Common.{left_after}
use Rattle.task_sheet.proofs.IndexLaws.{IsOrderOf-among, IsOrderOf-cons, listed-order}
use Rattle.task_sheet.proofs.IndexLaws.{without-parts}
use Rattle.task_sheet.proofs.LevelLaws.{left_after-part, left_after-push}
use Rattle.task_sheet.proofs.MembersIndexes.{indexes_of-remove}
use Rattle.explain.specs.Conflict.{IsLeastConflict}
use Rattle.explain.proofs.ConflictLaws.{none_spared}
use Rattle.worst_lines.specs.Below.{IsOrderBelow, others_of}

-- each is one of those that are left of L, and stands below the rest of them
abbrev AllStandIn : List Task → Indexes → List ℕ → Type 0
AllStandIn U L [] = Unit {0}
AllStandIn U L (i ∷ order) = (L i ≡ true) × Stands U i (without_index L i)
    × AllStandIn U (without_index L i) order

stand_push : (U : List Task) (L : Indexes) (order : List ℕ) (i : ℕ) → AllStandIn U L order
    → left_after L order i ≡ true
    → Stands U i (without_index (left_after L order) i) → AllStandIn U L (order ++ i ∷ [])
stand_push U L [] i all member stands = (member, stands, tt)
stand_push U L (j ∷ order) i all member stands =
    (all.0, all.1, stand_push U (without_index L j) order i all.2 member stands)

stand_order : (U : List Task) (L : Indexes) (order : List ℕ) → AllStandIn U L order
    → ((k : ℕ) → left_after L order k ≡ false) → IsOrderOf L order × AllStand U order
stand_order U L [] all none = ((λ k. rw (none k)), tt)
stand_order U L (i ∷ above) all none =
    let rest = stand_order U (without_index L i) above all.2 none in
    let same = IsOrderOf-among (without_index L i) above rest.0 in
    (IsOrderOf-cons L i above all.0 rest.0, (subst (λ H. Stands U i H) (sym same) all.1, rest.1))

module _ (U : List Task) (C : Indexes) (i : ℕ) where
  -- some of L are placed above others and a task, and L is what is left
  pub record IsSofarBelow (L : Indexes) (order : List ℕ) : Type 0 where
    pub above : List ℕ
    pub each : AllStandIn U (without_index C i) above
    pub rest : L ≡ left_after (without_index C i) above
    pub placed : order ≡ listed_below (length U) (others_of U C) ++ i ∷ above

  pub below_part : (L : Indexes) (order : List ℕ) → IsPart C (all_of U) → IsSofarBelow L order
      → IsPart L (all_of U)
  below_part L order part so =
      subst (λ X. IsPart X (all_of U)) (sym so.rest)
      (λ k h. part k (without-parts C i k (left_after-part (without_index C i) so.above k h)).0)

  pub below_push : (left : members.FinSet nat_cmp) (next : ℕ) (order : List ℕ)
      → IsSofarBelow (indexes_of left) order → indexes_of left next ≡ true
      → Stands U next (without_index (indexes_of left) next)
      → IsSofarBelow (indexes_of (members.remove left next)) (order ++ next ∷ [])
  below_push left next order so member stands = record {
    above = so.above ++ next ∷ [];
    each = stand_push U (without_index C i) so.above next so.each
        (ap (λ (X : Indexes). X next) (sym so.rest) ∙ member)
        (subst (λ X. Stands U next (without_index X next)) so.rest stands);
    rest = indexes_of-remove left next ∙ ap (λ X. without_index X next) so.rest
        ∙ sym (left_after-push (without_index C i) so.above next);
    placed = ap (λ (xs : List ℕ). xs ++ next ∷ []) so.placed
        ∙ append_assoc (listed_below (length U) (others_of U C)) (i ∷ so.above) (next ∷ []);
  }

  -- where none that is left stands, none is left: the rest would be an obstruction without the task
  pub below_end : (L : Indexes) (order : List ℕ) → IsLeastConflict U C → C i ≡ true
      → IsSofarBelow L order → NoneStands U L → IsOrderBelow U C i order
  below_end L order least member so none =
      let inside : IsPart L (without_index C i) = subst (λ X. IsPart X (without_index C i))
      (sym so.rest) (left_after-part (without_index C i) so.above) in
      let both = stand_order U (without_index C i) so.above so.each
      (λ k. ap (λ (X : Indexes). X k) (sym so.rest)
      ∙ false_from_ne_true _ (λ on. none_spared U C i least member (
        L,
        record {
          within = below_part L order least.obstruction.within so;
          some = (k, on);
          stuck = none;
        },
        inside,
      ))) in
      record { above = so.above; each_once = both.0; each_stands = both.1; placed = so.placed }

-- ---- the whole names each task once
one_of_both : (all inside : Bool) → (inside ≡ true → all ≡ true)
    → cond {A = ℕ} (all && not inside) 1 0 + cond {A = ℕ} inside 1 0 ≡ cond {A = ℕ} all 1 0
one_of_both true true part = refl
one_of_both true false part = refl
one_of_both false true part = absurd (true≢false (sym (part refl)))
one_of_both false false part = refl

pub below-order : (U : List Task) (C : Indexes) (i : ℕ) (order : List ℕ) → IsPart C (all_of U)
    → C i ≡ true → IsOrderBelow U C i order → IsOrder U order
below-order U C i order part member is =
    subst (λ (xs : List ℕ). IsOrder U xs) (sym is.placed) (λ k.
    sum_by-append (λ x. cond {A = ℕ} (x == k) 1 0) (listed_below (length U) (others_of U C))
    (i ∷ is.above)
    ∙ (let low = listed-order (length U) (others_of U C) (λ j h. (and_parts _ _ h).0) k in
    let high = IsOrderOf-cons C i is.above member is.each_once k in
    let one = one_of_both (all_of U k) (C k) (part k) in
    omega (arith, low, high, one)))
