-- Where no task has a longer limit than one of less rank, the best order has the longest limits lowest.
use Rattle.std.proofs.Common.{◌≡◌, ℕ, ◌<◌, inl, inr, List, [], ◌∷◌, length, refl, sym, ◌∙◌, ap}
use Rattle.std.proofs.Common.{subst, arith}
use Rattle.std.proofs.lemmas.Bool.{cases_lt, cases_order, ltb-true}
use Rattle.task_sheet.proofs.Common.{Task, AllTasks, task_at, Indexes, IsPart, among, without_index}
use Rattle.task_sheet.proofs.Common.{limit_of, Passes, all_of, Stands, IsOrderOf, AllStand}
use Rattle.task_sheet.proofs.Common.{IsBetter, IsBest}
use Rattle.task_sheet.proofs.IndexLaws.{without-part_of, IsOrderOf-among, IsOrderOf-head}
use Rattle.task_sheet.proofs.IndexLaws.{IsOrderOf-rest, IsOrderOf-cons}
use Rattle.latest_first.specs.LatestFirst.{AllPrompt, IsLatest, IsLatestFirst, FollowLimits}
use Rattle.latest_first.proofs.OneOrder.{Passes-later}
use Rattle.latest_first.proofs.WithoutOne.{less, less-order, less-stand}

module _ (V : List Task) (valid : AllTasks V) (prompt : AllPrompt V) (follow : FollowLimits V) where
  -- of less rank than a task is each whose limit is longer
  before : (b j : ℕ) → b < length V → j < length V
      → limit_of (task_at V b) < limit_of (task_at V j) → j < b
  before b j within within' longer = elim (cases_order j b) [
    | inl e ↦ absurd (let same = ap (λ k. limit_of (task_at V k)) e in omega arith)
    | inr apart ↦ elim apart [
      | inl lt ↦ lt
      | inr gt ↦ absurd (let shorter = follow b j gt within' in omega arith)
    ]
  ]

  latest-from : (L : Indexes) (best : List ℕ) → IsPart L (all_of V) → IsOrderOf L best
      → AllStand V best → ((xs : List ℕ) → IsOrderOf L xs → AllStand V xs → ¬ IsBetter xs best)
      → IsLatestFirst V best
  latest-from L [] part each all unbeaten = tt
  latest-from L (b ∷ bs) part each all unbeaten =
      let member = IsOrderOf-head L b bs each in
      let rest = IsOrderOf-rest L b bs each in
      let left : among bs ≡ without_index L b = IsOrderOf-among (without_index L b) bs rest in
      let stands : Stands V b (without_index L b) = subst (λ X. Stands V b X) left all.0 in
      let within = ltb-true b (length V) (part b member) in
      let is : IsLatest V L b = record {
        free = (member, stands.1);
        latest = λ j free. let member' = free.0 in
            elim (cases_lt (limit_of (task_at V b)) (limit_of (task_at V j))) [
              | inr le ↦ le
              | inl longer ↦
                  let lesser = before b j within (ltb-true j (length V) (part j member')) longer in
                  let passes : Passes V j (without_index L j) =
                  Passes-later V prompt L part j b member' member (omega arith) stands.0 in
                  let order = less-order L j (b ∷ bs) member' each in
                  let stand : Stands V j (among (less j (b ∷ bs))) = subst (λ X. Stands V j X)
                  (sym (IsOrderOf-among (without_index L j) (less j (b ∷ bs)) order))
                  (passes, free.1) in
                  absurd (unbeaten (j ∷ less j (b ∷ bs))
                  (IsOrderOf-cons L j (less j (b ∷ bs)) member'
                  order) (stand, less-stand V valid j (b ∷ bs) all) (inl lesser))
            ];
      } in (
        subst (λ X. IsLatest V X b) (sym (IsOrderOf-among L (b ∷ bs) each)) is,
        latest-from (without_index L b) bs (without-part_of (length V) L b part) rest all.1
            (λ xs order stand better. unbeaten (b ∷ xs) (IsOrderOf-cons L b xs member order) (
              subst (λ X. Stands V b X) (left ∙ sym (IsOrderOf-among (without_index L b) xs order))
                  all.0,
              stand,
            ) (inr (refl, better))),
      )

  pub best-latest : (order : List ℕ) → IsBest V order → IsLatestFirst V order
  best-latest order best =
      latest-from (all_of V) order (λ k h. h) best.passing.each_once best.passing.each_stands
      (λ xs each all. best.unbeaten xs record { each_once = each; each_stands = all })
