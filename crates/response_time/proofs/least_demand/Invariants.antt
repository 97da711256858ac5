use Rattle.std.proofs.Common.{◌+◌, ◌*◌, ◌≤◌, ℕ}
use Rattle.task_sheet.specs.Indexes.{indexes_of}
use Rattle.response_time.proofs.AboveLaws.{interference_first}
use Rattle.response_time.proofs.least_demand.Given as goal

-- the tasks above so far execute as much in each window
abbrev pub invariant-loop-index : goal.invariant-loop-index
invariant-loop-index l = record {
  fits : l.least ≤ 10000000 + l.index * 10000000;
  sum :
      (time : ℕ) → 1 ≤ time →
      l.least ≤ l.initial.least + interference_first l.sheets (indexes_of l.above) time l.index;
}
