use Rattle.std.proofs.Common.{◌≡◌, ◌+◌, ◌-◌, ◌≤◌, ℕ}
use Rattle.task_sheet.proofs.Common.{task_at, indexes_of, demand_of, limit_of}
use Rattle.task_sheet.proofs.Trails.{IsWalk}
use Rattle.response_time.specs.Workload.{work_within, work_of}
use Rattle.response_time.proofs.respond.Given as goal

-- the numbers and the next one are the first iterates
abbrev pub invariant-loop-time : goal.invariant-loop-time
invariant-loop-time l = record {
  demand : (t : ℕ) → 1 ≤ t → t ≤ l.limit
      → work_within t l.work ≡ work_of l.set l.task (indexes_of l.fn.above) t;
  carried : l.work.time ≤ l.time;
  positive : 1 ≤ l.time;
  walk : IsWalk (demand_of l.set l.task (indexes_of l.fn.above)) (limit_of (task_at l.set l.task))
      l.numbers.items l.time;
  first : (s : ℕ) → 1 ≤ s → demand_of l.set l.task (indexes_of l.fn.above) s ≤ s → l.time ≤ s;
}

abbrev pub decreases-loop-time : goal.decreases-loop-time
decreases-loop-time l = l.limit + 1 - l.time
