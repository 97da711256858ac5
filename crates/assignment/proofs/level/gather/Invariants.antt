use Rattle.std.proofs.Common.{◌≤◌, length, vec_len, vec_capacity}
use Rattle.task_sheet.specs.Indexes.{indexes_of}
use Rattle.assignment.proofs.GatherLaws.{IsGathering}
use Rattle.assignment.proofs.level.gather.Given as goal

abbrev pub invariant-loop-task : goal.invariant-loop-task
invariant-loop-task l = record {
  gathering : IsGathering l.set (indexes_of l.left) l.fn.answers.items l.answers.items
      l.fails.items l.task;
  few : vec_len l.fails ≤ l.task;
  room : length l.set ≤ vec_capacity l.fails;
}
