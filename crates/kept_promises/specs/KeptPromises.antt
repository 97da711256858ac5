-- What is promised of a job, beside what a trace shows of it.
use Rattle.std.specs.Prelude.{◌≡◌, ◌≤◌, ◌+◌, IfSome, None}
use Rattle.observed.specs.SeenJob.{SeenData}

-- it ran at no priority but its thread's and its locks' ceilings; it executed no longer than its cost; it arrived no sooner than a period after the one before it, and was ready within its
-- jitter, where it says when; it was done within its bound, or the trace ends before that is past; and while it waited, tasks below it executed for no longer than its
-- blocking, no thread did that the set doesn't have, and somebody always did
pub record Keeps (s : SeenData) : Type 0 where
  pub priority : s.stray ≡ None
  pub cost : s.executed ≤ s.promise.cost
  pub period : IfSome s.gap (λ gap. s.promise.period ≤ gap)
  pub jitter : IfSome s.delay (λ delay. delay ≤ s.promise.jitter)
  pub bound : s.lasted ≤ s.promise.bound
  pub blocking : s.blocked ≤ s.promise.blocking
  pub foreign : s.foreign ≡ 0
  pub idle : s.idle ≡ 0

-- it kept all that the demand has room for, where timers and interrupts take of whoever executes, and an arrival may be seen
-- late by the jitter: it executed no longer than its cost and what they may take meanwhile; it arrived no sooner than a
-- period less the jitter; it was done within its bound; and while it waited, tasks below it executed for no longer than its
-- blocking and what they may take, and other threads, and nobody, together for no longer than that
pub record KeepsToDemand (s : SeenData) : Type 0 where
  pub priority : s.stray ≡ None
  pub cost : s.executed ≤ s.may_execute
  pub period : IfSome s.gap (λ gap. s.closest ≤ gap)
  pub jitter : IfSome s.delay (λ delay. delay ≤ s.promise.jitter)
  pub bound : s.lasted ≤ s.promise.bound
  pub blocking : s.blocked ≤ s.may_be_blocked
  pub taken : s.foreign + s.idle ≤ s.may_be_taken
