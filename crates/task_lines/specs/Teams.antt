-- Whose the tasks of a set are, and the words of a line that name a team.
use Rattle.std.specs.Prelude.{ℕ, List, [], ◌∷◌, ◌++◌, codes, Option, None, Some, if◌then◌else◌}
use Rattle.std.specs.Option.{option_or}
use Rattle.task_sheet.specs.Sheet.{Task, same_bytes}
use Rattle.lines.specs.Naming.{name_at}
use Rattle.task_lines.specs.declared.owner.Owner.{Owner}
use Rattle.task_lines.specs.declared.owner.Owner.TheVariants.{Task as OwnedTask, Interrupt as OwnedInterrupt, Follower, Clocked}

-- the team, where this says whose the task of a name is
abbrev pub team_by : Owner → List ℕ → Option (List ℕ)
team_by (OwnedTask task team) name = if same_bytes task name then Some team else None
team_by (OwnedInterrupt team) name = None
team_by (Follower task place) name = None
team_by (Clocked task) name = None

-- the team of the first task with a name, where there is one
abbrev pub team_of : List Owner → List ℕ → Option (List ℕ)
team_of [] name = None
team_of (o ∷ owners) name = option_or (team_by o name) (team_of owners name)

-- the words that name a team
abbrev pub team_said : Option (List ℕ) → List ℕ
team_said None = []
team_said (Some team) = codes " team " ++ team

-- the words that name the team of the task at an index; none where no team has it
abbrev pub team_words : List Owner → List Task → ℕ → List ℕ
team_words owners U task = team_said (team_of owners (name_at U task))
