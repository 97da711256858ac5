-- Rosters: the tasks on the node while changes are made, before it is known whether they are too many.
use Rattle.std.specs.Prelude.{◌≡◌, List, Option, None, Some, Result, Ok, Err}
use Rattle.std.specs.List.{AllByRecursion}
use Rattle.std.specs.List.Sorted.{IsStrictlySortedBy}
use Rattle.task_sheet.specs.Sheet.{IsInterrupt, IsValidSheet}
use Rattle.task_sheet.specs.Rank.{rank_cmp}
use Rattle.task_sheet.specs.TaskSet.{same_name, AreDistinct}
use Rattle.drafts.specs.declared.roster.Owned.{Owned}
use Rattle.drafts.specs.declared.change.Refusal.{Refusal}
use Rattle.drafts.specs.declared.interrupts.TeamInterrupt.{TeamInterrupt}
use Rattle.drafts.specs.Applied.{said_of, sheets_of}

-- valid sheets with distinct names, by rank
pub record IsRoster (tasks : List Owned) : Type 0 where
  pub valid : AllByRecursion IsValidSheet (sheets_of tasks)
  pub ranked : IsStrictlySortedBy rank_cmp (sheets_of tasks)
  pub distinct : AreDistinct same_name (sheets_of tasks)

-- each interrupt is within the limits
abbrev pub AreWithin : List TeamInterrupt → Type 0
AreWithin interrupts = AllByRecursion IsInterrupt (said_of interrupts)

-- the changes are refused, or were made
abbrev pub IsMade : Result (List Owned) Refusal → List Owned → Option Refusal → Type 0
IsMade outcome tasks None = outcome ≡ Ok tasks
IsMade outcome tasks (Some refusal) = outcome ≡ Err refusal

-- the changes are not refused
abbrev pub AreMade : Result (List Owned) Refusal → Type 0
AreMade (Ok tasks) = Unit {0}
AreMade (Err refusal) = ⊥
