-- The numbers that the certificate of a verdict gives to the chains of its set.
use Rattle.std.specs.Prelude.{◌≡◌, ◌<◌, ◌≤◌, true, List, [], length, map, Some, is_some, unwrap_or}
use Rattle.std.specs.List.{AllByRecursion}
use Rattle.task_sheet.specs.Name.{IsName}
use Rattle.task_sheet.specs.Sheet.{Task}
use Rattle.task_sheet.specs.Verdicts.{LevelData, VerdictData, Admitted, Infeasible}
use Rattle.chains.specs.Walks.{starts_of, steps_with}
use Rattle.chains.specs.Parts.{bound_in}
use Rattle.chains.specs.declared.bounds.Level.{Level}
use Rattle.chain_tables.specs.Chains.{ChainData}
use Rattle.chain_tables.specs.declared.table.TheConstants.{CHAIN_TASKS}
use Rattle.certificate.specs.declared.value.CertChain.{CertChain}

-- a chain of the set: its name is one, its tasks, not too many, are the set's, and walks along them begin somewhere
pub record IsChainOf (U : List Task) (chain : ChainData) : Type 0 where
  pub named : IsName chain.name
  pub few : length chain.tasks ≤ CHAIN_TASKS
  pub known : AllByRecursion (λ i. i < length U) chain.tasks
  pub begins : is_some (starts_of (steps_with U chain.offsets [] chain.tasks)) ≡ true

-- a level's task with its response
abbrev pub level_at : LevelData → Level
level_at l = record { task = l.task; response = Some l.response }

-- a chain with its bound in an order whose levels have these responses; 0 where it has none
abbrev pub numbered : List Task → List Level → ChainData → CertChain
numbered U levels chain =
    record { name = chain.name; number = unwrap_or (bound_in chain.writes chain.offsets U levels chain.tasks) 0 }

-- each chain with its bound in the order of a verdict; none where no order passes
abbrev pub numbers_of : List Task → List ChainData → VerdictData → List CertChain
numbers_of U chains (Admitted levels) = map (numbered U (map level_at levels)) chains
numbers_of U chains (Infeasible members) = []
