-- The work of a task in a window, which is its demand but for timers and interrupts, from its parts, and how it is
-- carried from a window to a longer one.
use Rattle.std.specs.Prelude.{◌≡◌, ℕ, ◌+◌, ◌-◌, ◌*◌, ◌<◌, ◌≤◌, Bool, List, All, sum_by, if◌then◌else◌}
use Rattle.std.specs.Int.{div_ceil}
use Rattle.task_sheet.specs.Sheet.{Task, task_at}
use Rattle.task_sheet.specs.Indexes.{Indexes}
use Rattle.task_sheet.specs.Demand.{jobs_within, blocking_of, interference_within, interrupts_within, limit_of}
use Rattle.response_time.specs.declared.workload.TheConstants.{WINDOW_LIMIT}

-- the work of a task i of the set U with the tasks H above it: its cost, its blocking, and their interference
abbrev pub work_of : List Task → ℕ → Indexes → ℕ → ℕ
work_of U i H time = (task_at U i).cost + blocking_of U i H + interference_within U H time

-- that work and, where they count, what timers and interrupts take: then it is the demand
abbrev pub demand_with : Bool → List Task → ℕ → Indexes → ℕ → ℕ
demand_with interrupted U i H time =
    work_of U i H time + (if interrupted then interrupts_within U time else 0)

-- the first window that covers that; it is within the limit
pub record IsFirstCover (U : List Task) (i : ℕ) (H : Indexes) (interrupted : Bool) (window : ℕ) : Type 0 where
  pub positive : 1 ≤ window
  pub within : window ≤ limit_of (task_at U i)
  pub covers : demand_with interrupted U i H window ≤ window
  pub first : (s : ℕ) → 1 ≤ s → demand_with interrupted U i H s ≤ s → window ≤ s

-- how often a task above comes, how late at most, what it takes each time, and the longest window
-- within which no job is released but those that are counted
pub record ShareData : Type 0 where
  pub period : ℕ
  pub jitter : ℕ
  pub cost : ℕ
  pub due : ℕ

-- within the limits of a sheet, and of the windows that serve a task
pub record IsShare (s : ShareData) : Type 0 where
  pub some : 0 < s.period
  pub short : s.period ≤ WINDOW_LIMIT
  pub late : s.jitter ≤ s.period
  pub within : s.cost ≤ s.period
  pub reach : s.due ≤ 3 * WINDOW_LIMIT

-- what is executed once, the shares of the tasks above that release more and more, and the work in
-- the last window
pub record WorkloadData : Type 0 where
  pub always : ℕ
  pub shares : List ShareData
  pub time : ℕ
  pub total : ℕ

-- what a share takes within a window
abbrev pub share_within : ℕ → ShareData → ℕ
share_within time s = jobs_within s.period s.jitter time * s.cost

-- the work in a window: what is executed once, and what the shares take
abbrev pub work_within : ℕ → WorkloadData → ℕ
work_within time w = w.always + sum_by (share_within time) w.shares

-- ---- from a window to a longer one
-- how many jobs of a share are released within the window after those that are counted
abbrev pub further_jobs : ℕ → ShareData → ℕ
further_jobs time s = div_ceil (time - s.due) s.period

-- what they take
abbrev pub further_work : ℕ → ShareData → ℕ
further_work time s = further_jobs time s * s.cost

-- the share with these jobs counted
abbrev pub counted_to : ℕ → ShareData → ShareData
counted_to time s = record {
  period = s.period;
  jitter = s.jitter;
  cost = s.cost;
  due = s.due + further_jobs time s * s.period;
}

-- the jobs within the window are counted, and no other; the share is within the limits of a sheet
pub record IsCountedTo (time : ℕ) (s : ShareData) : Type 0 where
  pub some : 0 < s.period
  pub short : s.period ≤ WINDOW_LIMIT
  pub late : s.jitter ≤ s.period
  pub within : s.cost ≤ s.period
  pub all : s.due + s.jitter ≡ jobs_within s.period s.jitter time * s.period

-- the total is the work in the last window
pub record IsCarried (w : WorkloadData) : Type 0 where
  pub counted : All (IsCountedTo w.time) w.shares
  pub total : w.total ≡ work_within w.time w
