use Rattle.std.proofs.Common.{◌≡◌, ◌+◌, ◌-◌, ◌≤◌, ℕ}
use Rattle.task_sheet.specs.Indexes.{indexes_of}
use Rattle.response_time.specs.Workload.{work_within, work_of, demand_with}
use Rattle.response_time.proofs.first_cover.Given as goal

-- no time up to the limit that covers it is below
abbrev pub invariant-loop-window : goal.invariant-loop-window
invariant-loop-window l = record {
  work : (t : ℕ) → 1 ≤ t → t ≤ l.limit
      → work_within t l.work ≡ work_of l.set l.task (indexes_of l.fn.above) t;
  carried : l.work.time ≤ l.window;
  positive : 1 ≤ l.window;
  first : (s : ℕ) → 1 ≤ s → s ≤ l.limit
      → demand_with l.interrupted l.set l.task (indexes_of l.fn.above) s ≤ s → l.window ≤ s;
}

abbrev pub decreases-loop-window : goal.decreases-loop-window
decreases-loop-window l = l.limit + 1 - l.window
