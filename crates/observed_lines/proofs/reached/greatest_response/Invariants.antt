use Rattle.std.proofs.Common.{◌≡◌, ◌+◌, ◌≤◌, max, drop, length}
use Rattle.task_sheet.specs.Demand.{greatest_of}
use Rattle.observed_lines.specs.Reached.{done_of}
use Rattle.observed_lines.proofs.reached.greatest_response.Given as goal

abbrev pub invariant-loop-job : goal.invariant-loop-job
invariant-loop-job l = record {
  counted : l.done ≤ l.job-index;
  done : l.done + length (done_of l.level (drop l.job-index l.seen))
      ≡ length (done_of l.level l.seen);
  greatest : max l.greatest
      (greatest_of (λ s. s.lasted) (done_of l.level (drop l.job-index l.seen)))
      ≡ greatest_of (λ s. s.lasted) (done_of l.level l.seen);
}
