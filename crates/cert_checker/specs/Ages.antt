-- What the levels of a certificate give for a chain: its bound in their order (Davare et al. 2007, with a smaller part at
-- each handover).
use Rattle.std.specs.Prelude.{ℕ, ◌==◌, nat_le, Bool, false, List, [], ◌∷◌, Option, Some, None, if◌then◌else◌}
use Rattle.task_sheet.specs.Sheet.{Task}
use Rattle.task_sheet.specs.Verdicts.{LevelData, order_of}
use Rattle.ceiling_kernel.specs.Tick.{Node, node_in}
use Rattle.chains.specs.Walks.{bound_by}
use Rattle.chains.specs.Parts.{steps_of}
use Rattle.chains.specs.declared.walks.Step.{Step}
use Rattle.chain_tables.specs.Chains.{ChainData}

-- the node of a set in the order of levels
abbrev pub node_of : List Task → List LevelData → Node
node_of U levels = node_in U (order_of levels)

-- the response of a task; 0 where no level is its
abbrev pub response_in : List LevelData → ℕ → ℕ
response_in [] i = 0
response_in (l ∷ levels) i = if l.task == i then l.response else response_in levels i

-- the steps of a chain
abbrev pub steps_in : List Task → List LevelData → ChainData → List Step
steps_in U levels c = steps_of c.writes c.offsets (node_of U levels) (response_in levels) c.tasks

-- a number is no less than a bound; where there is none, none is
abbrev pub is_enough : (bound : Option ℕ) → (number : ℕ) → Bool
is_enough None number = false
is_enough (Some bound) number = nat_le bound number

-- it is no less than that of a chain
abbrev pub covers_chain : List Task → List LevelData → ChainData → (number : ℕ) → Bool
covers_chain U levels c number = is_enough (bound_by (steps_in U levels c)) number
