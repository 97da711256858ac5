-- Blocking and demand of a task i of the set U, with the tasks H above it.
use Rattle.std.specs.Prelude.{◌≡◌, ◌<◌, false, true, Contains, ℕ, ◌+◌, ◌-◌, ◌*◌, Bool, ◌&&◌, ◌||◌, max, nat_le, nat_lt, List, [], ◌∷◌, length, sum_by, if◌then◌else◌}
use Rattle.std.specs.List.{list_any}
use Rattle.std.specs.Int.{div_ceil}
use Rattle.task_sheet.specs.declared.node.Interrupt.{Interrupt}
use Rattle.task_sheet.specs.Sheet.{Task, CriticalSection, task_at}
use Rattle.task_sheet.specs.Indexes.{Indexes, with_index, sum_below, greatest_below, some_below}
use Rattle.task_sheet.specs.Locks.{reaches}
use Rattle.task_sheet.specs.Responses.{Covers, IsResponse}

-- ---- the words that say what a task releases and how long it may take
-- how many jobs of this period and jitter are released at most within a window of this length
abbrev pub jobs_within : (period jitter time : ℕ) → ℕ
jobs_within period jitter time = div_ceil (time + jitter) period

-- how many jobs of a task are released at most within the window
abbrev pub releases_within : Task → ℕ → ℕ
releases_within t time = jobs_within t.period t.jitter time

-- what a task's jitter leaves of a time from the arrival: a time from the latest release
abbrev pub past_jitter : Task → ℕ → ℕ
past_jitter t time = time - t.jitter

-- the longest time that serves a task: what its jitter leaves of the deadline
abbrev pub limit_of : Task → ℕ
limit_of t = past_jitter t t.deadline

-- ---- blocking (Sha, Rajkumar, Lehoczky 1990)
-- the greatest value of the elements, and 0 of none
abbrev pub greatest_of : {X : Type 0} → (X → ℕ) → List X → ℕ
greatest_of f [] = 0
greatest_of f (x ∷ xs) = max (f x) (greatest_of f xs)

-- the longest section of a task that the tasks X reach
abbrev pub longest_reached : List Task → Indexes → Task → ℕ
longest_reached U X t = greatest_of (λ s. if reaches U X s then s.len else 0) t.sections

-- the longest section of a task outside H and other than i that H with i reaches; 0 if there is none
unfoldable pub blocking_of : List Task → ℕ → Indexes → ℕ
blocking_of U i H =
    greatest_below (length U) (λ k. if with_index H i k then 0
    else longest_reached U (with_index H i) (task_at U k))

-- a section that can block: one of a task outside H and other than i, reached by H with i
pub record Blocks (U : List Task) (i : ℕ) (H : Indexes) (s : CriticalSection) : Type 0 where
  pub task : ℕ
  pub in_set : task < length U
  pub outside : with_index H i task ≡ false
  pub section : Contains (task_at U task).sections s
  pub reached : reaches U (with_index H i) s ≡ true

-- ---- interrupts (Burns, Wellings)
-- what the jobs of an interrupt can execute in a window
abbrev pub interrupt_within : ℕ → Interrupt → ℕ
interrupt_within time x = jobs_within x.period 0 time * x.cost

-- what a task's timer and the interrupts on its account take in a window of whoever executes
abbrev pub interrupts_of : ℕ → Task → ℕ
interrupts_of time t =
    releases_within t time * t.node.release + sum_by (interrupt_within time) t.interrupts

-- those of all tasks of the set
unfoldable pub interrupts_within : List Task → ℕ → ℕ
interrupts_within U time = sum_below (length U) (λ k. interrupts_of time (task_at U k))

-- a task has a timer that takes time, or an interrupt on its account
abbrev pub interrupts_some : Task → Bool
interrupts_some t = nat_lt 0 t.node.release || nat_lt 0 (length t.interrupts)

-- some task of the set has
abbrev pub has_interrupts : List Task → Bool
has_interrupts U = list_any interrupts_some U

-- no task has
abbrev pub IsUninterrupted : List Task → Type 0
IsUninterrupted U = (k : ℕ) → k < length U → interrupts_some (task_at U k) ≡ false

-- ---- demand (Audsley et al. 1993)
-- what a task's jobs of a window can execute
abbrev pub interference_of : Task → ℕ → ℕ
interference_of t time = releases_within t time * t.cost

-- what the jobs of the tasks H can execute in a window
abbrev pub interference_within : List Task → Indexes → ℕ → ℕ
interference_within U H time =
    sum_below (length U) (λ h. if H h then interference_of (task_at U h) time else 0)

-- cost, blocking, the interference of the tasks above, and the interrupts: the time demand from the critical instant, at
-- which all are released at once (Liu, Layland 1973)
unfoldable pub demand_of : List Task → ℕ → Indexes → ℕ → ℕ
demand_of U i H time =
    (task_at U i).cost + blocking_of U i H + interference_within U H time
    + interrupts_within U time

-- the response of task i with the tasks H above it, from the arrival: past its jitter, the least time that is its own
-- demand
abbrev pub IsResponseOf : List Task → ℕ → Indexes → ℕ → Type 0
IsResponseOf U i H r = IsResponse (demand_of U i H) (past_jitter (task_at U i) r)

-- task i passes with the tasks H above it: some time from 1 to its limit covers its demand
abbrev pub Passes : List Task → ℕ → Indexes → Type 0
Passes U i H = Covers (demand_of U i H) (limit_of (task_at U i))

-- the same as a test
unfoldable pub does_pass : List Task → ℕ → Indexes → Bool
does_pass U i H =
    some_below (limit_of (task_at U i) + 1) (λ t. nat_le 1 t && nat_le (demand_of U i H t) t)

-- how often a task is released at most within a limit, beyond the releases within the first tick
abbrev pub later_releases : ℕ → Task → ℕ
later_releases limit t = releases_within t limit - releases_within t 1

-- how often an interrupt comes at most within a limit, beyond the first tick
abbrev pub later_interrupts : ℕ → Interrupt → ℕ
later_interrupts limit x = jobs_within x.period 0 limit - jobs_within x.period 0 1

-- a task's releases count in a demand: it is above, or has a timer
abbrev pub counts : List Task → Indexes → ℕ → Bool
counts U H k = H k || nat_lt 0 (task_at U k).node.release

-- two more than how often at most, within the limit and beyond the first tick, a task is released that counts, or an
-- interrupt comes
abbrev pub evaluation_bound : List Task → Indexes → ℕ → ℕ
evaluation_bound U H limit =
    2
    + sum_below (length U) (λ k.
    (if counts U H k then later_releases limit (task_at U k) else 0)
    + sum_by (later_interrupts limit) (task_at U k).interrupts)
