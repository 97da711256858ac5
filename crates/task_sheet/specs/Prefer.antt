-- How a document says by what its tasks are preferred for the lower levels.
use Rattle.std.specs.Prelude.{ℕ, List, Option, Some, None, codes, if◌then◌else◌}
use Rattle.task_sheet.specs.Sheet.{same_bytes}
use Rattle.task_sheet.specs.declared.prefer.Preference.{Preference}
use Rattle.task_sheet.specs.declared.prefer.Preference.TheVariants.{Weights, Deadline, Chains}

-- how a preference is written
abbrev pub preference_word : Preference → List ℕ
preference_word Weights = codes "weight"
preference_word Deadline = codes "deadline"
preference_word Chains = codes "chains"

-- the preference that a word says
abbrev pub preference_of : List ℕ → Option Preference
preference_of word =
    if same_bytes (preference_word Weights) word then Some Weights
    else (if same_bytes (preference_word Deadline) word then Some Deadline
    else (if same_bytes (preference_word Chains) word then Some Chains else None))
