-- The commands of `desk`: their words, and the names of what they take.
use Rattle.std.specs.Prelude.{ℕ, List, [], ◌∷◌, Option, Some, None, codes, option_map}
use Rattle.std.specs.List.{find}
use Rattle.std.specs.Str.{bytes_eq}
use Rattle.clap.specs.Words.{Text}
use Rattle.command_line.specs.declared.calls.OfOne.{OfOne}
use Rattle.command_line.specs.declared.calls.OfOne.TheVariants.{Admit, Certify, Limits, Settings, Explain, Worst, Script, Play}
use Rattle.command_line.specs.declared.calls.OfTwo.{OfTwo}
use Rattle.command_line.specs.declared.calls.OfTwo.TheVariants.{Check, Judge, Diff, Simulate, Draw, Observe}
use Rattle.command_line.specs.declared.calls.OfTwo.TheVariants as of_two
use Rattle.command_line.specs.declared.calls.OfNumber.{OfNumber}
use Rattle.command_line.specs.declared.calls.OfNumber.TheVariants.{Releases, Rush}
use Rattle.command_line.specs.declared.calls.Verb.{Verb}
use Rattle.command_line.specs.declared.calls.Verb.TheVariants.{One, Two, Number}
use Rattle.command_line.specs.declared.calls.Choice.{Choice}
use Rattle.command_line.specs.declared.calls.Choice.TheVariants.{Prefer, Strict, Task, Chain, Base, Room, LowerIsHigher, Seed, Tasks, Tolerance, Jobless, Keep, At, Beside, All, Sort, From, To, Width, Print, Title, Rows, Team}
use Rattle.command_line.specs.declared.calls.Takes.{Takes}
use Rattle.command_line.specs.declared.calls.Takes.TheVariants as takes
use Rattle.command_line.specs.declared.calls.TheConstants.{MOST_WORKERS, MOST_TEAM, MOST_PRIORITY, MOST_ROOM, MOST_SEED, MOST_TOLERANCE, LEAST_WIDTH, MOST_WIDTH, LEAST_PAPER, MOST_PAPER, LATEST_END}

-- the commands with their words and the options that they take, as help lists them: those that answer on a task set,
-- those for certificates and runs, those for scripts
abbrev pub commands : List (Text × Verb × List Choice)
commands =
    (codes "admit", One Admit, Prefer ∷ Strict ∷ Sort ∷ [])
    ∷ (codes "explain", One Explain, Prefer ∷ Strict ∷ Task ∷ At ∷ All ∷ Sort ∷ [])
    ∷ (codes "limits", One Limits, Prefer ∷ Strict ∷ Task ∷ At ∷ [])
    ∷ (codes "settings", One Settings, Prefer ∷ Strict ∷ Base ∷ Room ∷ Keep ∷ [])
    ∷ (codes "judge", Two Judge, Prefer ∷ Strict ∷ LowerIsHigher ∷ Sort ∷ [])
    ∷ (codes "diff", Two Diff, Prefer ∷ Strict ∷ [])
    ∷ (codes "certify", One Certify, Prefer ∷ Strict ∷ [])
    ∷ (codes "check", Two Check, Prefer ∷ Strict ∷ [])
    ∷ (codes "releases", Number Releases, Prefer ∷ Strict ∷ Seed ∷ [])
    ∷ (codes "worst", One Worst, Prefer ∷ Strict ∷ Task ∷ Chain ∷ At ∷ [])
    ∷ (codes "simulate", Two Simulate, Prefer ∷ Strict ∷ Tasks ∷ [])
    ∷ (codes "draw", Two Draw, Prefer ∷ Strict ∷ Beside ∷ From ∷ To ∷ Width ∷ Print ∷ Title ∷ Rows ∷ Chain ∷ [])
    ∷ (codes "observe", Two Observe, Prefer ∷ Strict ∷ Tolerance ∷ Jobless ∷ [])
    ∷ (codes "script", One Script, Prefer ∷ Strict ∷ Team ∷ [])
    ∷ (codes "play", One Play, [])
    ∷ (codes "rush", Number Rush, [])
    ∷ []

-- the command that has the word
unfoldable pub verb_of : Text → Option Verb
verb_of word = option_map (λ row. row.1) (find (λ row. bytes_eq row.0 word) commands)

-- the name of the first input of a command
abbrev pub input_of : Verb → Text
input_of (One Play) = codes "SCRIPT"
input_of (Number Rush) = codes "SCRIPT"
input_of _ = codes "SET"

-- the name of the second input of a command that takes two
abbrev pub second_of : OfTwo → Text
second_of Check = codes "CERT"
second_of Judge = codes "SETTINGS"
second_of Diff = codes "NEW"
second_of Observe = codes "TRACE"
second_of of_two.Keep = codes "SETTINGS"
second_of of_two.WorstAt = codes "SETTINGS"
second_of of_two.ExplainAt = codes "SETTINGS"
second_of of_two.LimitsAt = codes "SETTINGS"
second_of _ = codes "RELEASES"

-- the option that names a second input to a command of one, and the command of two that it then is
abbrev pub by_file : OfOne → Option (Choice × OfTwo)
by_file Settings = Some (Keep, of_two.Keep)
by_file Worst = Some (At, of_two.WorstAt)
by_file Explain = Some (At, of_two.ExplainAt)
by_file Limits = Some (At, of_two.LimitsAt)
by_file _ = None

-- the option that names a set beside the inputs of a command of two, and the command that it then is
abbrev pub beside : OfTwo → Option (Choice × OfTwo)
beside Draw = Some (Beside, of_two.DrawBeside)
beside _ = None

-- the name of the number of a command that takes one
abbrev pub number_name : OfNumber → Text
number_name Releases = codes "UNTIL"
number_name Rush = codes "WORKERS"

-- the least number that it takes
abbrev pub least_of : OfNumber → ℕ
least_of Releases = 0
least_of Rush = 1

-- the greatest number that it takes
abbrev pub most_of : OfNumber → ℕ
most_of Releases = LATEST_END
most_of Rush = MOST_WORKERS

-- the word of an option
abbrev pub choice_name : Choice → Text
choice_name Prefer = codes "prefer"
choice_name Strict = codes "strict"
choice_name Task = codes "task"
choice_name Chain = codes "chain"
choice_name Base = codes "base"
choice_name Room = codes "room"
choice_name LowerIsHigher = codes "lower-is-higher"
choice_name Seed = codes "seed"
choice_name Tasks = codes "tasks"
choice_name Tolerance = codes "tolerance"
choice_name Jobless = codes "jobless"
choice_name Keep = codes "keep"
choice_name At = codes "at"
choice_name Beside = codes "beside"
choice_name All = codes "all"
choice_name Sort = codes "sort"
choice_name From = codes "from"
choice_name To = codes "to"
choice_name Width = codes "width"
choice_name Print = codes "print"
choice_name Title = codes "title"
choice_name Rows = codes "tasks"
choice_name Team = codes "TEAM"

-- the word behind two dashes; none where it stands behind the inputs without one
abbrev pub long_of : Choice → Option Text
long_of Team = None
long_of c = Some (choice_name c)

-- the id under which `clap` keeps what an option is given: its word, but where that is another option's, too
abbrev pub choice_id : Choice → Text
choice_id Rows = codes "rows"
choice_id c = choice_name c

-- what an option takes
abbrev pub takes_of : Choice → Takes
takes_of Prefer = takes.Word
takes_of Strict = takes.Flag
takes_of Task = takes.Word
takes_of Chain = takes.Word
takes_of Base = takes.Number 1 MOST_PRIORITY
takes_of Room = takes.Number 0 MOST_ROOM
takes_of LowerIsHigher = takes.Flag
takes_of Seed = takes.Number 0 MOST_SEED
takes_of Tasks = takes.Flag
takes_of Tolerance = takes.Number 0 MOST_TOLERANCE
takes_of Jobless = takes.Flag
takes_of Keep = takes.Word
takes_of At = takes.Word
takes_of Beside = takes.Word
takes_of All = takes.Flag
takes_of Sort = takes.Word
takes_of From = takes.Number 0 LATEST_END
takes_of To = takes.Number 0 LATEST_END
takes_of Width = takes.Number LEAST_WIDTH MOST_WIDTH
takes_of Print = takes.Number LEAST_PAPER MOST_PAPER
takes_of Title = takes.Word
takes_of Rows = takes.Word
takes_of Team = takes.Number 1 MOST_TEAM

-- the options that take a number
abbrev pub number_choices : List Choice
number_choices = Base ∷ Room ∷ Seed ∷ Tolerance ∷ From ∷ To ∷ Width ∷ Print ∷ Team ∷ []
