-- Which jobs of a trace come later after the one before than their task's gap.
use Rattle.std.specs.Prelude.{ℕ, ◌+◌, ◌-◌, ◌==◌, nat_lt, Bool, false, ◌&&◌, if◌then◌else◌, Option, Some, None, is_some, List}
use Rattle.std.specs.List.{list_any}
use Rattle.observed.specs.SeenJob.{SeenData}
use Rattle.chain_tables.specs.Chains.{ChainData}

-- the longest time between two arrivals as they are seen: the second may be seen late by the jitter, where it isn't said when
-- it was ready
abbrev pub farthest : SeenData → ℕ
farthest s = if is_some s.delay then s.promise.period else s.promise.period + s.promise.jitter

-- a time, where there is one, less what is let pass, is longer than it may be
abbrev pub is_past : (tolerance most : ℕ) → (time : Option ℕ) → Bool
is_past tolerance most None = false
is_past tolerance most (Some time) = nat_lt most (time - tolerance)

-- a chain has a task
abbrev pub has_task : (task : ℕ) → ChainData → Bool
has_task task chain = list_any (λ own. own == task) chain.tasks

abbrev pub is_linked : List ChainData → (task : ℕ) → Bool
is_linked chains task = list_any (has_task task) chains

-- a job of a chain's task isn't steady
abbrev pub is_unsteady : (tolerance : ℕ) → List ChainData → SeenData → Bool
is_unsteady tolerance chains s =
    is_linked chains s.promise.task && is_past tolerance (farthest s) s.gap
