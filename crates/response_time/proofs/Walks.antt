-- The walk of a task from 1 on: where it ends.
use Rattle.std.proofs.Common.{◌≡◌, ℕ, ◌+◌, ◌<◌, ◌≤◌, List, [], ◌∷◌, ◌++◌, length, arith}
use Rattle.task_sheet.proofs.Common.{Task, AllTasks, Indexes, IsFullChain, demand_of}
use Rattle.task_sheet.specs.Responses.{IsTrail}
use Rattle.task_sheet.specs.Demand.{evaluation_bound}
use Rattle.task_sheet.proofs.DemandLaws.{demand_does_not_fall}
use Rattle.task_sheet.proofs.Trails.{IsWalk, walk-count, walk-within, walk_passes, walk_fails}
use Rattle.task_sheet.proofs.Evaluations.{walk-short}

-- the numbers are a trail, and no more than the evaluation bound
abbrev pub IsShortTrail : List Task → ℕ → Indexes → ℕ → List ℕ → Type 0
IsShortTrail U i H limit numbers = IsTrail (demand_of U i H) limit numbers
    × (length numbers ≤ evaluation_bound U H limit)

module _ (U : List Task) (i : ℕ) (H : Indexes) (valid : AllTasks U) (lt : i < length U) (limit : ℕ)
    (numbers : List ℕ) (t : ℕ) (walk : IsWalk (demand_of U i H) limit numbers t) where
  pub short_passes : demand_of U i H t ≡ t → t ≤ limit
      → IsShortTrail U i H limit (numbers ++ t ∷ [])
  short_passes fixed le = (
    walk_passes _ limit numbers t walk (demand_does_not_fall U valid i H lt) fixed le,
    omega (
      arith,
      (walk-count _ limit numbers t walk).1,
      walk-short U valid i H limit (walk.count + 1) (λ k less. walk.rises k (omega arith))
          (walk-within _ limit numbers t walk le),
    ),
  )

  pub short_fails : limit < t
      → IsFullChain (demand_of U i H) limit (numbers ++ t ∷ []) × IsShortTrail U i H limit numbers
  short_fails past =
      let fails = walk_fails _ limit numbers t walk (demand_does_not_fall U valid i H lt) past in (
        fails.0,
        (
          fails.1,
          omega (
            arith,
            (walk-count _ limit numbers t walk).0,
            walk-short U valid i H limit walk.count (λ k less. walk.rises k (omega arith))
                walk.within,
          ),
        ),
      )
