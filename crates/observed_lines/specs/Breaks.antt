-- Which promises of its set a job breaks, by more than a tolerance.
use Rattle.std.specs.Prelude.{ℕ, ◌-◌, Bool, false, ◌||◌, not, nat_lt, List, Option, Some, None}
use Rattle.std.specs.List.{list_all}
use Rattle.std.specs.Option.{is_some}
use Rattle.observed.specs.SeenJob.{SeenData}

-- a time is past a limit by more than the tolerance
abbrev pub is_past : (tolerance time limit : ℕ) → Bool
is_past tolerance time limit = nat_lt tolerance (time - limit)

-- a time, if there is one, is short of a limit by more than the tolerance
abbrev pub is_short : ℕ → Option ℕ → ℕ → Bool
is_short tolerance None limit = false
is_short tolerance (Some time) limit = nat_lt tolerance (limit - time)

-- what is left for nobody of what may be taken while it waits, beside what others took
abbrev pub may_idle : SeenData → ℕ
may_idle s = s.may_be_taken - s.foreign

-- a time, if there is one, is past a limit by more than the tolerance
abbrev pub is_over : ℕ → Option ℕ → ℕ → Bool
is_over tolerance None limit = false
is_over tolerance (Some time) limit = is_past tolerance time limit

-- it ran at a priority that is neither its thread's nor a ceiling of its locks
abbrev pub breaks_priority : SeenData → Bool
breaks_priority s = is_some s.stray

-- it executed longer than it may
abbrev pub breaks_cost : ℕ → SeenData → Bool
breaks_cost tolerance s = is_past tolerance s.executed s.may_execute

-- it arrived sooner after the one before it of its task than it may
abbrev pub breaks_period : ℕ → SeenData → Bool
breaks_period tolerance s = is_short tolerance s.gap s.closest

-- it was ready later after its arrival than its jitter
abbrev pub breaks_jitter : ℕ → SeenData → Bool
breaks_jitter tolerance s = is_over tolerance s.delay s.promise.jitter

-- it took longer than its bound, or isn't done and its bound is past
abbrev pub breaks_bound : ℕ → SeenData → Bool
breaks_bound tolerance s = is_past tolerance s.lasted s.promise.bound

-- while it waited, tasks below it executed for longer than they may
abbrev pub breaks_blocking : ℕ → SeenData → Bool
breaks_blocking tolerance s = is_past tolerance s.blocked s.may_be_blocked

-- while it waited, threads executed that the set doesn't have, for longer than what may be taken
abbrev pub breaks_foreign : ℕ → SeenData → Bool
breaks_foreign tolerance s = is_past tolerance s.foreign s.may_be_taken

-- while it waited, nobody executed for longer than what is left of that
abbrev pub breaks_idle : ℕ → SeenData → Bool
breaks_idle tolerance s = is_past tolerance s.idle (may_idle s)

-- a job breaks some promise
abbrev pub breaks_any : ℕ → SeenData → Bool
breaks_any tolerance s =
    breaks_priority s
    || (breaks_cost tolerance s
    || (breaks_period tolerance s
    || (breaks_jitter tolerance s
    || (breaks_bound tolerance s
    || (breaks_blocking tolerance s || (breaks_foreign tolerance s || breaks_idle tolerance s))))))

-- no job does
abbrev pub is_kept : ℕ → List SeenData → Bool
is_kept tolerance seen = list_all (λ s. not (breaks_any tolerance s)) seen
