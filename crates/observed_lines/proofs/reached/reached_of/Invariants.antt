use Rattle.std.proofs.Common.{◌≡◌, ◌+◌, ◌≤◌, max, drop, length}
use Rattle.task_sheet.specs.Demand.{greatest_of}
use Rattle.observed_lines.specs.Reached.{least_from, least_gap, of_level}
use Rattle.observed_lines.proofs.reached.reached_of.Given as goal

abbrev pub invariant-loop-job : goal.invariant-loop-job
invariant-loop-job l = record {
  counted : l.jobs ≤ l.job-index;
  jobs : l.jobs + length (of_level l.level (drop l.job-index l.seen))
      ≡ length (of_level l.level l.seen);
  executed : max l.executed
      (greatest_of (λ s. s.executed) (of_level l.level (drop l.job-index l.seen)))
      ≡ greatest_of (λ s. s.executed) (of_level l.level l.seen);
  gap : least_from l.gap (of_level l.level (drop l.job-index l.seen))
      ≡ least_gap (of_level l.level l.seen);
}
