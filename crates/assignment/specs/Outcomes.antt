-- Whether a task may stand, with what shows it.
use Rattle.std.specs.Prelude.{ℕ, ◌≤◌, List, IsFalse}
use Rattle.task_sheet.specs.Sheet.{Task, task_at}
use Rattle.task_sheet.specs.Indexes.{Indexes}
use Rattle.task_sheet.specs.Demand.{IsResponseOf}
use Rattle.task_sheet.specs.Orders.{must_outrank_any}
use Rattle.task_sheet.specs.Verdicts.{ReasonData, IsReason}
use Rattle.task_sheet.specs.Verdicts as data_of
use Rattle.assignment.specs.declared.outcome.Reason.{Reason}
use Rattle.assignment.specs.declared.outcome.Reason.TheVariants.{Chain, Over}
use Rattle.assignment.specs.declared.outcome.Outcome.{Outcome}
use Rattle.assignment.specs.declared.outcome.Outcome.TheVariants.{Pass, Fail}

-- what a reason says
abbrev pub reason_of : Reason → ReasonData
reason_of (Chain numbers) = data_of.Chain numbers.items
reason_of (Over other) = data_of.Over other

-- task i may stand below H with its response, within the deadline, or it may not for its reason
abbrev pub IsOutcome : List Task → ℕ → Indexes → Outcome → Type 0
IsOutcome U i H (Pass response) =
    IsFalse (must_outrank_any U i H) × IsResponseOf U i H response × (response ≤ (task_at U i).deadline)
IsOutcome U i H (Fail reason) = IsReason U i H (reason_of reason)
