use Rattle.std.proofs.Common.{◌≡◌, ◌≤◌, ◌+◌, ◌*◌, ℕ, length}
use Rattle.task_sheet.specs.Indexes.{indexes_of}
use Rattle.response_time.specs.Workload.{work_within}
use Rattle.response_time.proofs.AboveLaws.{interference_first}
use Rattle.response_time.proofs.workload.Workload.new.Given as goal

-- what the tasks above so far execute is in it
abbrev pub invariant-loop-index : goal.invariant-loop-index
invariant-loop-index l = record {
  start : l.work.time ≡ l.first;
  few : length l.work.shares ≤ l.index;
  fits : l.work.total ≤ 20000000 + l.index * 30000000;
  sum :
      (time : ℕ) → l.first ≤ time → time ≤ l.limit →
      work_within time l.work
      ≡ l.always + interference_first l.sheets (indexes_of l.above) time l.index;
}
