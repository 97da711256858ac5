-- A set's tasks by their teams.
use Rattle.std.specs.Prelude.{ℕ, Bool, not, List, [], ◌∷◌, ◌++◌, if◌then◌else◌}
use Rattle.std.specs.List.{filter, list_any}
use Rattle.task_sheet.specs.Sheet.{Task, same_bytes}
use Rattle.owners.specs.Accounts.{accounted}
use Rattle.owners.specs.Owners.{has_task}
use Rattle.task_lines.specs.declared.owner.Owner.{Owner}
use Rattle.task_lines.specs.declared.owner.Owner.TheVariants.{Task as OwnedTask, Interrupt as OwnedInterrupt, Follower, Clocked}

-- a team is among some
abbrev pub is_among : List (List ℕ) → List ℕ → Bool
is_among teams team = list_any (λ t. same_bytes t team) teams

-- the teams, and the one whose task this is, if it isn't among them
abbrev pub with_owner : (teams : List (List ℕ)) → Owner → List (List ℕ)
with_owner teams (OwnedTask task team) = if is_among teams team then teams else teams ++ team ∷ []
with_owner teams (OwnedInterrupt team) = teams
with_owner teams (Follower task place) = teams
with_owner teams (Clocked task) = teams

-- some teams, and those that have tasks, each once, by their first tasks
abbrev pub teams_from : (teams : List (List ℕ)) → List Owner → List (List ℕ)
teams_from teams [] = teams
teams_from teams (o ∷ owners) = teams_from (with_owner teams o) owners

-- the tasks of each team; and those that none of them has, where there are some
abbrev pub parts_by : List Owner → (teams : List (List ℕ)) → List Task → List (List Task)
parts_by owners [] [] = []
parts_by owners [] (t ∷ U) = (t ∷ U) ∷ []
parts_by owners (team ∷ teams) U =
    filter (has_task owners team) U
    ∷ parts_by owners teams (filter (λ t. not (has_task owners team t)) U)

-- the parts of a set: of each team that has tasks its own, with its interrupts, in the order of the documents
abbrev pub parts_of : List Owner → List Task → List (List Task)
parts_of owners U = parts_by owners (teams_from [] owners) (accounted owners U)

-- the tasks of parts
abbrev pub all_of : List (List Task) → List Task
all_of [] = []
all_of (U ∷ parts) = U ++ all_of parts
