-- The tasks that stand above a task in each order that passes (after Audsley 1991).
use Rattle.std.specs.Prelude.{◌≡◌, ◌≢◌, ℕ, List, IsTrue}
use Rattle.task_sheet.specs.Sheet.{Task}
use Rattle.task_sheet.specs.Indexes.{Indexes, IsPart, among, without_index}
use Rattle.task_sheet.specs.Orders.{IsPassingOrder, Stands}
use Rattle.ceiling_kernel.specs.Bounds.{after_of}

-- all tasks H stand above task i in each order that passes, and in some such order no other does
pub record IsLeastAbove (U : List Task) (i : ℕ) (H : Indexes) : Type 0 where
  pub always : (order : List ℕ) → IsPassingOrder U order → IsPart H (among (after_of order i))
  pub reached : (order : List ℕ) × IsPassingOrder U order × (among (after_of order i) ≡ H)

-- ---- level by level
-- of the tasks L another one than i may stand below the rest
pub record IsOtherBelow (U : List Task) (L : Indexes) (i j : ℕ) : Type 0 where
  pub other : j ≢ i
  pub member : IsTrue (L j)
  pub stands : Stands U j (without_index L j)

-- none does
abbrev pub NoOtherStands : List Task → Indexes → ℕ → Type 0
NoOtherStands U L i = (j : ℕ) → ¬ IsOtherBelow U L i j
