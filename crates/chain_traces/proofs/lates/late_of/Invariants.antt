use Rattle.std.proofs.Common.{◌≡◌, max, drop}
use Rattle.task_sheet.specs.Demand.{greatest_of}
use Rattle.chain_traces.specs.Lates.{late_at, late_of}
use Rattle.chain_traces.proofs.lates.late_of.Given as goal

abbrev pub invariant-loop-job : goal.invariant-loop-job
invariant-loop-job l =
    max l.late (greatest_of (late_at l.task) (drop l.job-index l.seen)) ≡ late_of l.seen l.task
