use Rattle.std.proofs.Common.{◌+◌, ◌-◌, ◌≤◌, ℕ}
use Rattle.response_time.specs.Workload.{work_within}
use Rattle.response_time.proofs.workload.Workload.first_window.Given as goal

-- no window that covers the demand is below
abbrev pub invariant-loop-window : goal.invariant-loop-window
invariant-loop-window l = record {
  positive : 1 ≤ l.window;
  least : (time : ℕ) → 1 ≤ time → work_within time l.self ≤ time → l.window ≤ time;
}

abbrev pub decreases-loop-window : goal.decreases-loop-window
decreases-loop-window l = l.limit + 1 - l.window
