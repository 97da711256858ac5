-- Orders by a test of a task with some tasks above it, which knows which these are, not in which order: it is
-- OPA-compatible (Davis, Burns 2011).
use Rattle.std.specs.Prelude.{ℕ, List, [], ◌∷◌, IsTrue, IsFalse}
use Rattle.task_sheet.specs.Sheet.{Task}
use Rattle.task_sheet.specs.Indexes.{Indexes, among, without_index, IsPart}
use Rattle.task_sheet.specs.Orders.{all_of, must_outrank_any, IsOrder}

-- task i may stand below the tasks H: it passes the test with them above it, and need not stand above any of them
abbrev pub StandsBy : (Test : ℕ → Indexes → Type 0) → List Task → ℕ → Indexes → Type 0
StandsBy Test U i H = Test i H × IsFalse (must_outrank_any U i H)

-- each task may stand so below those after it
abbrev pub AllStandBy : (Test : ℕ → Indexes → Type 0) → List Task → List ℕ → Type 0
AllStandBy Test U [] = Unit {0}
AllStandBy Test U (i ∷ above) = StandsBy Test U i (among above) × AllStandBy Test U above

-- an order of the set in which each task passes the test
pub record IsPassingBy (Test : ℕ → Indexes → Type 0) (U : List Task) (order : List ℕ) : Type 0 where
  pub each_once : IsOrder U order
  pub each_stands : AllStandBy Test U order

-- some order passes so
abbrev pub IsFeasibleBy : (Test : ℕ → Indexes → Type 0) → List Task → Type 0
IsFeasibleBy Test U = (order : List ℕ) × IsPassingBy Test U order

-- some tasks of the set, none of which may stand so below the others of them
pub record ObstructsBy (Test : ℕ → Indexes → Type 0) (U : List Task) (S : Indexes) : Type 0 where
  pub within : IsPart S (all_of U)
  pub some : (k : ℕ) × IsTrue (S k)
  pub stuck : (i : ℕ) → IsTrue (S i) → ¬ StandsBy Test U i (without_index S i)

-- those of which all others that are so are a part
pub record ObstructsMostBy (Test : ℕ → Indexes → Type 0) (U : List Task) (S : Indexes) : Type 0 where
  pub obstruction : ObstructsBy Test U S
  pub greatest : (other : Indexes) → ObstructsBy Test U other → IsPart other S
