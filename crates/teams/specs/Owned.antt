-- The tasks of teams.
use Rattle.std.specs.Prelude.{ℕ, List, [], ◌∷◌, ◌++◌, find, map, Option, option_map, unwrap_or, slice_index_or}
use Rattle.task_sheet.specs.Sheet.{Task, no_task, same_bytes}
use Rattle.task_sheet.specs.declared.prefer.Preference.{Preference}
use Rattle.task_sheet.specs.declared.node.Node.{Node}
use Rattle.task_sheet.specs.declared.node.Interrupt.{Interrupt}
use Rattle.teams.specs.declared.fault.TeamsFault.{TeamsFault}
use Rattle.teams.specs.declared.fault.TeamsFault.TheVariants.{Taken}

-- a team's set, what its document prefers, the node that it says, and its interrupts
pub record TeamSetData : Type 0 where
  pub team : List ℕ
  pub set : List Task
  pub prefers : Option Preference
  pub node : Option Node
  pub interrupts : List Interrupt

-- a team's task
pub record OwnedData : Type 0 where
  pub team : List ℕ
  pub sheet : Task

-- stands past the end of a list
abbrev pub no_owned : OwnedData
no_owned = record { team = []; sheet = no_task }

-- the tasks of a team's set
abbrev pub owned_by : List ℕ → List Task → List OwnedData
owned_by team U = map (λ t. record { team = team; sheet = t }) U

-- those of each team's, in their order
abbrev pub owned_all : List TeamSetData → List OwnedData
owned_all [] = []
owned_all (s ∷ sets) = owned_by s.team s.set ++ owned_all sets

-- the team of the first task with a name
abbrev pub holder_of : List OwnedData → List ℕ → Option (List ℕ)
holder_of tasks name =
    option_map (λ o. o.team) (find (λ o. same_bytes o.sheet.name name) tasks)

-- the task at a place has the name of one before it
abbrev pub taken_at : List OwnedData → ℕ → TeamsFault
taken_at tasks place =
    Taken (slice_index_or tasks place no_owned).team (slice_index_or tasks place no_owned).sheet.name
    (unwrap_or (holder_of tasks (slice_index_or tasks place no_owned).sheet.name)
    (slice_index_or tasks place no_owned).team)
