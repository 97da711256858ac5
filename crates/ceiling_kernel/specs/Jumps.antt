-- From one event to the next the pick stays: what lets a simulation jump.
use Rattle.std.specs.Prelude.{◌≡◌, ℕ, ◌+◌, ◌<◌, ◌≤◌, nat_le, nat_lt, if◌then◌else◌, Some, None, List, [], ◌∷◌, length}
use Rattle.task_sheet.specs.Sheet.{CriticalSection}
use Rattle.ceiling_kernel.specs.Tick.{Node, Job, job_at, executed_before, picked}

-- the first boundary above e at which what a job with these sections holds may change, or the limit
abbrev pub change_after : List CriticalSection → (e limit : ℕ) → ℕ
change_after [] e limit = limit
change_after (s ∷ ss) e limit =
    if nat_le e s.at then s.at + 1 else (if nat_lt e (s.at + s.len) then s.at + s.len
    else change_after ss e limit)

-- no job becomes ready after tick t and before tick u
abbrev pub NoneReadyBetween : List Job → (t u : ℕ) → Type 0
NoneReadyBetween jobs t u =
    (j : ℕ) → j < length jobs → t < (job_at jobs j).ready → u ≤ (job_at jobs j).ready

-- the job that tick t picks is picked for k ticks, where up to their end none becomes ready and it reaches no boundary
abbrev pub PickStays : Node → List Job → Type 0
PickStays node jobs =
    (t k p : ℕ) → picked node jobs t ≡ Some p → NoneReadyBetween jobs t (t + k)
    → executed_before node jobs t p + k
    ≤ change_after (job_at jobs p).sections (executed_before node jobs t p)
    (job_at jobs p).executes
    → (d : ℕ) → d < k → picked node jobs (t + d) ≡ Some p

-- where tick t picks no job, none is picked until one becomes ready
abbrev pub IdleStays : Node → List Job → Type 0
IdleStays node jobs =
    (t k : ℕ) → picked node jobs t ≡ None → NoneReadyBetween jobs t (t + k)
    → (d : ℕ) → d < k → picked node jobs (t + d) ≡ None
