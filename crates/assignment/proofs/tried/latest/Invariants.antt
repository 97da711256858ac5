use Rattle.std.proofs.Common.{ℕ, ◌<◌, ◌≤◌, IfSome, IfNone}
use Rattle.task_sheet.proofs.Common.{task_at, indexes_of, limit_of}
use Rattle.latest_first.specs.LatestFirst.{IsFree}
use Rattle.assignment.proofs.tried.latest.Given as goal

abbrev pub invariant-loop-task : goal.invariant-loop-task
invariant-loop-task l = record {
  inside : IfSome l.found (λ i. i < l.task);
  free : IfSome l.found (λ i. IsFree l.set (indexes_of l.left) i);
  longest : IfSome l.found (λ i. (j : ℕ) → j < l.task → IsFree l.set (indexes_of l.left) j
      → limit_of (task_at l.set j) ≤ limit_of (task_at l.set i));
  first : IfSome l.found (λ i. (j : ℕ) → j < i → IsFree l.set (indexes_of l.left) j
      → limit_of (task_at l.set j) < limit_of (task_at l.set i));
  none : IfNone l.found ((j : ℕ) → j < l.task → ¬ IsFree l.set (indexes_of l.left) j);
}
