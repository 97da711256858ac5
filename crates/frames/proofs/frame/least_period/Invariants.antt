use Rattle.std.proofs.Common.{◌≡◌, drop}
use Rattle.frames.specs.Frame.{least_period}
use Rattle.task_sheet.specs.declared.sheet.TheConstants.{PERIOD_TO}
use Rattle.frames.proofs.frame.least_period.Given as goal

abbrev pub invariant-loop-row : goal.invariant-loop-row
invariant-loop-row l =
    least_period l.least (drop l.row-index l.rows) ≡ least_period PERIOD_TO l.fn.rows
