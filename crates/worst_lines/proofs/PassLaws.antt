-- An order that decides passes where some order does.
use Rattle.std.proofs.Common.{ℕ, inl, inr, List, [], ◌∷◌, sym, subst}
use Rattle.task_sheet.proofs.Common.{Task, AllTasks, IsTaskSet, Indexes, IsPart, without_index}
use Rattle.task_sheet.proofs.Common.{among, all_of, IsOrderOf, AllStand, IsPassingOrder, IsFeasible}
use Rattle.task_sheet.proofs.IndexLaws.{without-parts, IsOrderOf-among, IsOrderOf-rest}
use Rattle.task_sheet.proofs.TaskLaws.{AllTasks-from_set}
use Rattle.latest_first.specs.LatestFirst.{AllPrompt, IsLatest, IsLatestFirst}
use Rattle.latest_first.proofs.OneOrder.{AllPrompt-valid, IsPassingOrder-latest, lowest}
use Rattle.worst_lines.specs.Deciding.{AllNext, IsDeciding}

module _ (U : List Task) (valid : AllTasks U) (prompt : AllPrompt U) where
  -- below tasks of an order in which each stands one of them is free, so that the lowest is the latest of those
  next-latest : (L : Indexes) (order other : List ℕ) → IsOrderOf L order → AllNext U L order
      → IsPart L (among other) → AllStand U other → IsLatestFirst U order
  next-latest L [] other each all within stand = tt
  next-latest L (i ∷ above) other each all within stand =
      let low = lowest U valid prompt L other within i all.0.member stand in
      let latest : IsLatest U L i =
      elim all.0.latest [ inl is ↦ is | inr none ↦ absurd (none low.0 (low.1, low.2.1)) ] in (
        subst (λ X. IsLatest U X i) (sym (IsOrderOf-among L (i ∷ above) each)) latest,
        next-latest (without_index L i) above other (IsOrderOf-rest L i above each) all.1
            (λ k h. within k (without-parts L i k h).0) stand,
      )

pub deciding-passes : (U : List Task) → IsTaskSet U → (order : List ℕ) → IsDeciding U order
    → IsFeasible U → IsPassingOrder U order
deciding-passes U set order is feasible =
    let valid = AllTasks-from_set U set in
    let prompt = AllPrompt-valid U set in
    let other = feasible.0 in
    let within : IsPart (all_of U) (among other) = subst (λ X. IsPart (all_of U) X)
    (sym (IsOrderOf-among (all_of U) other feasible.1.each_once)) (λ k h. h) in
    IsPassingOrder-latest U valid prompt order is.each_once (next-latest U valid prompt (all_of U)
    order other is.each_once is.next within feasible.1.each_stands) feasible
