use Rattle.std.proofs.Common.{◌≡◌, ◌+◌, ◌-◌, ◌*◌, ◌≤◌, ◌<◌, ℕ}
use Rattle.task_sheet.specs.Sheet.{task_at}
use Rattle.task_sheet.specs.Indexes.{indexes_of}
use Rattle.task_sheet.specs.Demand.{limit_of, demand_of}
use Rattle.response_time.proofs.slowed.is_covered.Given as goal

-- no window before this one covers as much
abbrev pub invariant-loop-window : goal.invariant-loop-window
invariant-loop-window l = record {
  positive : 1 ≤ l.window;
  limit : l.limit ≡ limit_of (task_at l.set l.task);
  few : l.limit ≤ 10000000;
  fails : (t : ℕ) → 1 ≤ t → t < l.window → 1000 * t < l.factor * demand_of l.set l.task (indexes_of l.above) t;
}

abbrev pub decreases-loop-window : goal.decreases-loop-window
decreases-loop-window l = l.limit + 1 - l.window
