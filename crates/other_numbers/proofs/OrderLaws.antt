-- A walk along a given order of a set.
use Rattle.std.proofs.Common.{◌≡◌, ◌↔◌, ℕ, ◌+◌, ◌-◌, ◌<◌, true, List, ◌∷◌, length, get_or, All}
use Rattle.std.proofs.Common.{drop, take, sym, ◌∙◌, ap, subst, arith}
use Rattle.std.specs.Ordering.{nat_cmp}
use Rattle.std.specs.FinSet as members
use Rattle.std.proofs.lemmas.Bool.{ltb-true}
use Rattle.std.proofs.lemmas.Grind.{common_steps}
use Rattle.std.proofs.lemmas.List.{drop_more, get_or_default}
use Rattle.std.proofs.lemmas.List.Elements.{All-drop}
use Rattle.task_sheet.proofs.Common.{Task, Indexes, indexes_of, among, without_index, IsPart, all_of}
use Rattle.task_sheet.proofs.Common.{IsOrderOf, IsOrder}
use Rattle.task_sheet.proofs.IndexLaws.{without-part_of, place-among}
use Rattle.task_sheet.proofs.IndexLaws.{IsOrderOf-among, IsOrderOf-head, IsOrderOf-rest}
use Rattle.task_sheet.proofs.MembersIndexes.{indexes_of-remove}
use Rattle.latest_first.specs.Tested.{StandsBy, AllStandBy}

-- ---- an order place by place
slice-rest : (order : List ℕ) (n : ℕ) → n < length order
    → take (length order - (n + 1)) (drop (n + 1) order) ≡ drop (n + 1) order
slice-rest order n lt = grind (arith, common_steps)

module _ (U : List Task) (order : List ℕ) (each : IsOrder U order) where
  pub place-inside : (n : ℕ) → n < length order → get_or order n 0 < length U
  place-inside n lt = ltb-true _ (length U) (sym (ap (λ (X : Indexes). X (get_or order n 0))
      (IsOrderOf-among (all_of U) order each)) ∙ place-among order n lt)

  -- those after a place are of the set
  pub rest-inside : (n : ℕ) → n < length order
      → All (λ i. i < length U) (take (length order - (n + 1)) (drop (n + 1) order))
  rest-inside n lt = rw (slice-rest order n lt) (All-drop (λ i. i < length U) (n + 1) order
      (λ k d inside. omega (arith, place-inside k inside, get_or_default order k 0 d inside)))

-- from a place on each may stand where the task there may, and each after it
pub stand-from : (Test : ℕ → Indexes → Type 0) (U : List Task) (order : List ℕ) (n : ℕ) (H : Indexes)
    → n < length order → H ≡ among (take (length order - (n + 1)) (drop (n + 1) order))
    → AllStandBy Test U (drop n order)
    ↔ (StandsBy Test U (get_or order n 0) H × AllStandBy Test U (drop (n + 1) order))
stand-from Test U order n H lt same = rw (same, slice-rest order n lt) (
  λ all. subst (λ o. AllStandBy Test U o) (drop_more order n 0 lt) all,
  λ all. subst (λ o. AllStandBy Test U o) (sym (drop_more order n 0 lt)) all,
)
