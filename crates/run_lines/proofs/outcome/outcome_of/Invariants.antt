use Rattle.std.proofs.Common.{◌≡◌, ◌+◌, ◌≤◌, max, drop, length}
use Rattle.task_sheet.specs.Demand.{greatest_of}
use Rattle.run_lines.specs.Reached.{done_of, response_of}
use Rattle.run_lines.proofs.outcome.outcome_of.Given as goal

abbrev pub invariant-loop-job : goal.invariant-loop-job
invariant-loop-job l = record {
  counted : l.done ≤ l.job-index;
  done : l.done + length (done_of l.name (drop l.job-index l.jobs))
      ≡ length (done_of l.name l.jobs);
  greatest : max l.greatest (greatest_of response_of (done_of l.name (drop l.job-index l.jobs)))
      ≡ greatest_of response_of (done_of l.name l.jobs);
}
