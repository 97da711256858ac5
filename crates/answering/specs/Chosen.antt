-- What the words of a call choose.
use Rattle.std.specs.Prelude.{Bool, Option, Some, None, ℕ, min, max, List, is_some, option_map, if◌then◌else◌}
use Rattle.task_sheet.specs.declared.prefer.Preference.{Preference}
use Rattle.task_sheet.specs.declared.prefer.Preference.TheVariants as preference
use Rattle.preferences.specs.declared.asking.Asking.{Asking}
use Rattle.preferences.specs.declared.asking.Strictness.TheVariants.{AsSaid, Strict}
use Rattle.command_line.specs.declared.calls.Preferred.{Preferred}
use Rattle.command_line.specs.declared.calls.Preferred.TheVariants as preferred
use Rattle.command_line.specs.declared.calls.Options.{Options}
use Rattle.command_line.specs.declared.calls.TheConstants.{MOST_PRIORITY, MOST_ROOM, MOST_TEAM}

-- what a call prefers, where its words say so
abbrev pub preferred_by : Option Preferred → Option Preference
preferred_by (Some preferred.Deadline) = Some preference.Deadline
preferred_by (Some preferred.Chains) = Some preference.Chains
preferred_by (Some preferred.Weight) = Some preference.Weights
preferred_by None = None

-- what a call asks of the sets that it reads: without `--strict` a set's text may ask that it have no doubt
abbrev pub asking_of : Options → Asking
asking_of options = record {
  prefer = preferred_by options.prefer;
  strictness = if options.is_strict then Strict else AsSaid;
}

-- a priority that words choose for level 1, else 1; they choose none above the greatest
abbrev pub base_chosen : Option ℕ → ℕ
base_chosen (Some base) = min base MOST_PRIORITY
base_chosen None = 1

-- the same of what a call's words choose
abbrev pub base_of : Options → ℕ
base_of options = base_chosen options.base

-- how much room words choose beside a number that is given anew, else none; they choose no more than the greatest
abbrev pub room_chosen : Option ℕ → ℕ
room_chosen (Some room) = min room MOST_ROOM
room_chosen None = 0

-- the same of what a call's words choose
abbrev pub room_of : Options → ℕ
room_of options = room_chosen options.room

-- the number of a team that words choose; they choose none below the least or above the greatest
abbrev pub team_chosen : Options → Option ℕ
team_chosen options = option_map (λ team. max 1 (min team MOST_TEAM)) options.team

-- it is asked for lines of levels by slack
abbrev pub is_sorted : Options → Bool
is_sorted options = is_some options.sort

-- the word that names the task that is asked about
abbrev pub task_of : Options → Option (List ℕ)
task_of options = option_map (λ word. word.now) options.task

-- the word that names the chain that is asked about
abbrev pub chain_of : Options → Option (List ℕ)
chain_of options = option_map (λ word. word.now) options.chain
