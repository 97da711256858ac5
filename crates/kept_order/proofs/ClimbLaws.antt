-- Levels from the lowest up: the chosen tasks make the best order that keeps a list, or none does.
use Rattle.std.proofs.Common.{◌≡◌, ℕ, inl, inr, true, false, ◌==◌, List, [], ◌∷◌, ◌++◌, length}
use Rattle.std.proofs.Common.{refl, sym, subst}
use Rattle.std.specs.Ordering.{nat_cmp}
use Rattle.std.specs.FinSet as members
use Rattle.std.proofs.lemmas.Bool.{cases_Bool, or_cases, both_ways, eqb-true}
use Rattle.task_sheet.proofs.Common.{Task, AllTasks, Indexes, indexes_of, without_index, among}
use Rattle.task_sheet.proofs.Common.{IsPart, IsResponseOf, all_of, AllStand, IsOrderOf, IsBetter}
use Rattle.task_sheet.proofs.Common.{left_after}
use Rattle.task_sheet.proofs.MembersIndexes.{member_of-len}
use Rattle.task_sheet.proofs.IndexLaws.{without-parts, IsOrderOf-among, IsOrderOf-head}
use Rattle.task_sheet.proofs.IndexLaws.{IsOrderOf-rest, IsOrderOf-cons}
use Rattle.assignment.specs.Places.{PlaceData}
use Rattle.assignment.specs.Placings.{tasks_of_places}
use Rattle.assignment.proofs.FeasibilityLaws.{some_left}
use Rattle.assignment.proofs.PlacingLaws.{IsPlaced, IsPlaced-part, IsPlaced-push, IsPlaced-none}
use Rattle.assignment.proofs.PlacingLaws.{tasks-push}
use Rattle.kept_order.specs.Keeping.{Keeps, IsPassingKept, IsBestKept, IsKeptPlacing, StandsKept}
use Rattle.kept_order.specs.Keeping.{NoneStandsKept, IsChosenKept}
use Rattle.kept_order.proofs.KeepsLaws.{StandsKept-part, Keeps-head, Keeps-rest, Keeps-cons}

module _ (U : List Task) (kept : List ℕ) where
  -- ---- the order of the chosen
  -- each was chosen among those that were left
  abbrev pub AllChosenKept : Indexes → List ℕ → Type 0
  AllChosenKept L [] = Unit {0}
  AllChosenKept L (i ∷ placed) = IsChosenKept U kept L i × AllChosenKept (without_index L i) placed

  AllChosenKept-push : (L : Indexes) (placed : List ℕ) (i : ℕ) → AllChosenKept L placed
      → IsChosenKept U kept (left_after L placed) i
      → AllChosenKept L (placed ++ i ∷ [])
  AllChosenKept-push L [] i chosen next = (next, tt)
  AllChosenKept-push L (j ∷ placed) i chosen next =
      (chosen.0, AllChosenKept-push (without_index L j) placed i chosen.1 next)

  AllChosenKept-order : (L : Indexes) (order : List ℕ) → AllChosenKept L order
      → ((k : ℕ) → left_after L order k ≡ false)
      → IsOrderOf L order × AllStand U order × Keeps kept order
  AllChosenKept-order L [] chosen none = ((λ k. rw (none k)), tt, λ a b below. refl)
  AllChosenKept-order L (i ∷ above) chosen none =
      let rest = AllChosenKept-order (without_index L i) above chosen.1 none in
      let stands = subst (λ X. StandsKept U kept i X)
      (sym (IsOrderOf-among (without_index L i) above rest.0)) chosen.0.stands in (
        IsOrderOf-cons L i above chosen.0.member rest.0,
        (stands.0, rest.1),
        Keeps-cons kept i above stands.1 rest.2,
      )

  AllChosenKept-unbeaten : (L : Indexes) (order other : List ℕ) → AllChosenKept L order
      → IsOrderOf L other → AllStand U other → Keeps kept other → ¬ IsBetter other order
  AllChosenKept-unbeaten L (y ∷ ys) (x ∷ xs) chosen each all keeps better =
      let rest = IsOrderOf-rest L x xs each in
      elim better [
        | inl lt ↦ chosen.0.first x lt (IsOrderOf-head L x xs each)
            (subst (λ X. StandsKept U kept x X) (IsOrderOf-among (without_index L x) xs rest)
            (all.0, Keeps-head kept x xs keeps))
        | inr later ↦ AllChosenKept-unbeaten (without_index L y) ys xs chosen.1
            (subst (λ j. IsOrderOf (without_index L j) xs) later.0 rest) all.1
            (Keeps-rest kept x xs keeps) later.1
      ]
  AllChosenKept-unbeaten L [] (x ∷ xs) chosen each all keeps better = better
  AllChosenKept-unbeaten L _ [] chosen each all keeps better = better

  AllChosenKept-best : (order : List ℕ) → AllChosenKept (all_of U) order
      → ((k : ℕ) → left_after (all_of U) order k ≡ false) → IsBestKept U kept order
  AllChosenKept-best order chosen none =
      let all = AllChosenKept-order (all_of U) order chosen none in
      record {
        passing = record {
          passing = record { each_once = all.0; each_stands = all.1 };
          keeps = all.2;
        };
        unbeaten = λ other so. AllChosenKept-unbeaten (all_of U) order other chosen
            so.passing.each_once so.passing.each_stands so.keeps;
      }

  -- ---- no such order where none of those that are left may stand
  clears : (S : Indexes) (order : List ℕ) → AllTasks U → NoneStandsKept U kept S
      → IsPart S (among order) → AllStand U order → Keeps kept order → (k : ℕ) → ¬ (S k ≡ true)
  clears S [] valid stuck part all keeps k h = both_ways false refl (part k h)
  clears S (i ∷ above) valid stuck part all keeps k h =
      let rest : (j : ℕ) → S j ≡ true → (j ≡ i → ⊥) → among above j ≡ true =
      λ j e ne. elim (or_cases (i == j) (among above j) (part j e)) [
        | inl same ↦ absurd (ne (sym (eqb-true i j same)))
        | inr r ↦ r
      ] in
      elim (cases_Bool (S i)) [
        | inl member ↦ stuck i member (StandsKept-part U kept i _ _ valid
            (λ j e. let both = without-parts S i j e in rest j both.0 both.1)
            (all.0, Keeps-head kept i above keeps))
        | inr out ↦ clears S above valid stuck
            (λ j e. rest j e (λ same. both_ways (S i) out (rw same at e))) all.1
            (Keeps-rest kept i above keeps) k h
      ]

  -- ---- places from the lowest up
  -- these were chosen and are placed, and these tasks are left
  pub record IsKeptTo (left : members.FinSet nat_cmp) (places : List PlaceData) : Type 0 where
    pub chosen : AllChosenKept (all_of U) (tasks_of_places places)
    pub placed : IsPlaced U (indexes_of left) places

  pub IsKeptTo-push : (left : members.FinSet nat_cmp) (places : List PlaceData) (p : PlaceData)
      → IsKeptTo left places → IsChosenKept U kept (indexes_of left) p.task
      → IsResponseOf U p.task (without_index (indexes_of left) p.task) p.response
      → IsKeptTo (members.remove left p.task) (places ++ p ∷ [])
  IsKeptTo-push left places p so chosen is = record {
    chosen = subst (λ ns. AllChosenKept (all_of U) ns) (sym (tasks-push places _ p refl))
        (AllChosenKept-push (all_of U) (tasks_of_places places) p.task so.chosen
        (subst (λ X. IsChosenKept U kept X p.task) so.placed.rest chosen));
    placed = IsPlaced-push U left _ places _ p so.placed is refl refl;
  }

  pub IsKeptTo-best : (left : members.FinSet nat_cmp) (places : List PlaceData)
      → IsKeptTo left places → left ≡ members.empty → IsKeptPlacing U kept places
  IsKeptTo-best left places so none = record {
    best = AllChosenKept-best (tasks_of_places places) so.chosen
        (IsPlaced-none U left places so.placed none);
    each = so.placed.each;
  }

  pub IsKeptTo-none : (left : members.FinSet nat_cmp) (places : List PlaceData) → AllTasks U
      → IsKeptTo left places → ¬ (left ≡ members.empty) → NoneStandsKept U kept (indexes_of left)
      → (order : List ℕ) → ¬ IsPassingKept U kept order
  IsKeptTo-none left places valid so some stuck order passes =
      let part = IsPlaced-part U (indexes_of left) places so.placed in
      let member = member_of-len left (length U) part (some_left left some) in
      let all = IsOrderOf-among (all_of U) order passes.passing.each_once in
      clears (indexes_of left) order valid stuck
      (subst (λ X. IsPart (indexes_of left) X) (sym all) part)
      passes.passing.each_stands passes.keeps member.0 member.2
