use Rattle.std.proofs.Common.{◌≡◌, max, drop}
use Rattle.task_sheet.specs.Demand.{greatest_of}
use Rattle.observed.specs.End.{last_of}
use Rattle.observed.proofs.end.last_time.Given as goal

abbrev pub invariant-loop-job : goal.invariant-loop-job
invariant-loop-job l =
    max l.last (greatest_of last_of (drop l.job-index l.jobs)) ≡ greatest_of last_of l.jobs
