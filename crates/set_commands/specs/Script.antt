-- What `desk script` answers and prints.
use Rattle.std.specs.Prelude.{◌≡◌, ◌<◌, ◌≤◌, ℕ, List, length, Option, Some, None, Result, Ok, Err}
use Rattle.preferences.specs.declared.asking.Asking.{Asking}
use Rattle.drafts.specs.declared.team.TheConstants.{TEAM_LIMIT}
use Rattle.task_sheet.specs.Sheet.{Task}
use Rattle.owners.specs.Parts.{parts_of}
use Rattle.task_lines.specs.declared.owner.Owner.{Owner}
use Rattle.scripted.specs.Scripted.{script_of, script_of_teams}
use Rattle.answering.specs.Owning.{HasOwned}
use Rattle.answering.specs.Printed.{Prints}
use Rattle.answering.specs.Sets.{HasNoSet, HasSet}
use Rattle.answering.specs.declared.refusal.CommandRefusal.{CommandRefusal}
use Rattle.answering.specs.declared.refusal.CommandRefusal.TheVariants as refusal
use Rattle.answering.specs.declared.status.Status.{Status}
use Rattle.answering.specs.declared.status.Status.TheVariants as status

-- ---- of one team
-- the answer on what a reader has: its set, or why there is none
abbrev pub Scripts : Asking → Option (List ℕ) → Result (List Task) CommandRefusal → Type 0
Scripts asking known (Ok U) = HasSet asking known U
Scripts asking known (Err r) = HasNoSet asking known r

-- a text is the script of a team that is the reader's set
pub record IsScript (asking : Asking) (team : ℕ) (known : Option (List ℕ))
    (text : List ℕ) : Type 0 where
  pub set : List Task
  pub has : HasSet asking known set
  pub says : text ≡ script_of team set

-- ---- of all teams
-- the script of all teams that have tasks of a set, where a script has as many
abbrev pub IsAllScripted : List Owner → List Task → List ℕ → Type 0
IsAllScripted owners U text =
    (length (parts_of owners U) ≤ TEAM_LIMIT) × (text ≡ script_of_teams (parts_of owners U))

-- they are more; or memory ran out
abbrev pub AreTooMany : List Owner → List Task → CommandRefusal → Type 0
AreTooMany owners U refusal.TooManyTeams = TEAM_LIMIT < length (parts_of owners U)
AreTooMany owners U refusal.OutOfMemory = Unit {0}
AreTooMany owners U _ = ⊥

-- a text is the script of all teams that is the reader's set
pub record IsAllScript (asking : Asking) (known : Option (List ℕ)) (text : List ℕ) : Type 0 where
  pub set : List Task
  pub owners : List Owner
  pub has : HasOwned asking known set owners
  pub says : IsAllScripted owners set text

-- a reader has no set, or more teams have tasks of it than a script has
abbrev pub HasNoParts : Asking → Option (List ℕ) → CommandRefusal → Type 0
HasNoParts asking known refusal.TooManyTeams =
    (U : List Task) × (owners : List Owner) × HasOwned asking known U owners
    × AreTooMany owners U refusal.TooManyTeams
HasNoParts asking known r = HasNoSet asking known r

-- the answer on what a reader has: its set by parts, or why there are none
abbrev pub ScriptsParts :
    Asking → Option (List ℕ) → Result (List (List Task)) CommandRefusal → Type 0
ScriptsParts asking known (Ok parts) =
    (U : List Task) × (owners : List Owner) × HasOwned asking known U owners
    × (parts ≡ parts_of owners U) × (length parts ≤ TEAM_LIMIT)
ScriptsParts asking known (Err r) = HasNoParts asking known r

-- the set that the reader had is printed after what the writer held, as the script of a team with a number, or without one
-- as that of all teams that have tasks; and the status is the answer's
abbrev pub SaysScript :
    Asking → (team : Option ℕ) → Option (List ℕ) → (before after : Option (List ℕ)) → Status
    → Type 0
SaysScript asking (Some team) known before after s =
    Prints (Scripts asking known) (script_of team) (λ _. status.Done) before after s
SaysScript asking None known before after s =
    Prints (ScriptsParts asking known) script_of_teams (λ _. status.Done) before after s
