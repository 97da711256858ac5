-- The order in which a refused set is looked at: it passes exactly where some order does (Leung, Whitehead 1982; with
-- blocking Bletsas, Audsley 2006; with jitter Zuhily, Burns 2007).
use Rattle.std.specs.Prelude.{ℕ, ◌⊎◌, List, [], ◌∷◌, IsTrue}
use Rattle.task_sheet.specs.Sheet.{Task}
use Rattle.task_sheet.specs.Indexes.{Indexes, without_index}
use Rattle.task_sheet.specs.Orders.{IsOrder, all_of}
use Rattle.latest_first.specs.LatestFirst.{IsFree, IsLatest}

-- each task of L must stand above another of them
abbrev pub NoneFree : List Task → Indexes → Type 0
NoneFree U L = (j : ℕ) → ¬ IsFree U L j

-- task i of L may be the lowest of them: of those that need not stand above another of them one with the longest limit; any,
-- where each must
pub record IsNext (U : List Task) (L : Indexes) (i : ℕ) : Type 0 where
  pub member : IsTrue (L i)
  pub latest : IsLatest U L i ⊎ NoneFree U L

-- each may be the lowest of those that are left of L
abbrev pub AllNext : List Task → Indexes → List ℕ → Type 0
AllNext U L [] = Unit {0}
AllNext U L (i ∷ order) = IsNext U L i × AllNext U (without_index L i) order

-- an order that decides
pub record IsDeciding (U : List Task) (order : List ℕ) : Type 0 where
  pub each_once : IsOrder U order
  pub next : AllNext U (all_of U) order
