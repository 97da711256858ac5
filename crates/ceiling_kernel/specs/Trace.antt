-- The trace of the ticks below a time: slices, which are longest runs of ticks of one job, and when each job finishes.
use Rattle.std.specs.Prelude.{ℕ, zero, suc, ◌+◌, ◌&&◌, nat_le, ◌==◌, if◌then◌else◌, Option, Some, None, List, [], ◌∷◌, reverse}
use Rattle.std.specs.Option.{option_or}
use Rattle.ceiling_kernel.specs.declared.trace.Slice.{Slice}
use Rattle.ceiling_kernel.specs.Tick.{Node, Job, job_at, executed_before, picked}

-- slices, the newest first, with the ticks from `start` to `stop` of one job behind them
abbrev pub with_run : List Slice → (job start stop : ℕ) → List Slice
with_run [] job start stop = record { job = job; start = start; stop = stop } ∷ []
with_run (s ∷ ss) job start stop =
    if (s.job == job) && (s.stop == start)
    then record { job = job; start = s.start; stop = stop } ∷ ss
    else record { job = job; start = start; stop = stop } ∷ s ∷ ss

-- slices, the newest first, with a tick of the job that runs in it, if one does
abbrev pub with_tick : List Slice → ℕ → Option ℕ → List Slice
with_tick ss t None = ss
with_tick ss t (Some job) = with_run ss job t (t + 1)

-- the slices of the ticks below a time, the newest first
unfoldable pub slices_before : (run : ℕ → Option ℕ) → ℕ → List Slice
slices_before run zero = []
slices_before run (suc t) = with_tick (slices_before run t) t (run t)

-- the slices of the ticks below `until`, by time
abbrev pub slices_of : Node → List Job → ℕ → List Slice
slices_of node jobs until = reverse (slices_before (picked node jobs) until)

-- when job j finishes in the ticks below a time: at the end of the last tick that it executes
unfoldable pub finish_before : Node → List Job → ℕ → ℕ → Option ℕ
finish_before node jobs zero j = None
finish_before node jobs (suc t) j =
    option_or (finish_before node jobs t j)
    (if nat_le (job_at jobs j).executes (executed_before node jobs (suc t) j) then Some (suc t)
    else None)
