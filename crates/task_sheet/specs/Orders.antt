-- Orders of a set's tasks, lowest first (Audsley 1991).
use Rattle.std.specs.Prelude.{◌≡◌, ℕ, ◌<◌, ◌⊎◌, ◌==◌, Bool, ◌&&◌, List, [], ◌∷◌, length, count_by, IsFalse, if◌then◌else◌}
use Rattle.task_sheet.specs.Sheet.{Task, task_at, outranks_task}
use Rattle.task_sheet.specs.Indexes.{Indexes, below, among, some_below}
use Rattle.task_sheet.specs.Demand.{Passes}

-- all tasks of a set
abbrev pub all_of : List Task → Indexes
all_of U = below (length U)

-- task i must stand above task k
abbrev pub must_outrank : List Task → ℕ → ℕ → Bool
must_outrank U i k = outranks_task (task_at U i) (task_at U k)

-- task i must stand above some task of H
unfoldable pub must_outrank_any : List Task → ℕ → Indexes → Bool
must_outrank_any U i H = some_below (length U) (λ k. H k && must_outrank U i k)

-- task i may stand below the tasks H: it passes with them above it, and need not stand above any of them. The test knows
-- which tasks are above, not in which order: it is OPA-compatible (Davis, Burns 2011)
abbrev pub Stands : List Task → ℕ → Indexes → Type 0
Stands U i H = Passes U i H × IsFalse (must_outrank_any U i H)

-- the list names each index of L once, and no other
abbrev pub IsOrderOf : Indexes → List ℕ → Type 0
IsOrderOf L order = (k : ℕ) → count_by (λ x. x == k) order ≡ (if L k then 1 else 0)

-- an order of a set: each of its tasks once
abbrev pub IsOrder : List Task → List ℕ → Type 0
IsOrder U order = IsOrderOf (all_of U) order

-- each task may stand below those after it
abbrev pub AllStand : List Task → List ℕ → Type 0
AllStand U [] = Unit {0}
AllStand U (i ∷ above) = Stands U i (among above) × AllStand U above

-- an order of the set in which each task passes
pub record IsPassingOrder (U : List Task) (order : List ℕ) : Type 0 where
  pub each_once : IsOrder U order
  pub each_stands : AllStand U order

-- some order passes: the set is schedulable by fixed priorities
abbrev pub IsFeasible : List Task → Type 0
IsFeasible U = (order : List ℕ) × IsPassingOrder U order

-- at the lowest place where they differ, the first order has the task of smaller rank
abbrev pub IsBetter : List ℕ → List ℕ → Type 0
IsBetter [] ys = ⊥
IsBetter (x ∷ xs) [] = ⊥
IsBetter (x ∷ xs) (y ∷ ys) = (x < y) ⊎ ((x ≡ y) × IsBetter xs ys)

-- a passing order than which no passing order is better
pub record IsBest (U : List Task) (order : List ℕ) : Type 0 where
  pub passing : IsPassingOrder U order
  pub unbeaten : (other : List ℕ) → IsPassingOrder U other → ¬ IsBetter other order
