use Rattle.std.proofs.Common.{◌≡◌, ◌≤◌, length}
use Rattle.task_sheet.specs.Indexes.{indexes_of, listed_below}
use Rattle.candidate_workers.proofs.candidates.Candidates.at.Given as goal

abbrev pub invariant-loop-task : goal.invariant-loop-task
invariant-loop-task l = record {
  counted : l.before ≡ length (listed_below l.task (indexes_of l.self.left));
  within : l.before ≤ l.place;
  few : l.before ≤ l.task;
}
