-- What a trace shows of a job.
use Rattle.std.specs.Prelude.{ℕ, ◌+◌, ◌-◌, Bool, nat_lt, max, List, [], ◌∷◌, length, Option, Some, None, unwrap_or, if◌then◌else◌}
use Rattle.std.specs.Option.{is_some, option_map}
use Rattle.task_sheet.specs.Sheet.{Task, same_bytes}
use Rattle.task_sheet.specs.Demand.{interrupts_within}
use Rattle.trace_text.specs.declared.rows.TraceJob.{TraceJob}
use Rattle.observed.specs.Culprits.{culprits_below}
use Rattle.observed.specs.Ranks.{stray_in}
use Rattle.observed.specs.SeenJob.{SeenData}
use Rattle.observed.specs.Shares.{time_in}
use Rattle.observed.specs.Strangers.{longest_stranger}
use Rattle.observed.specs.declared.promises.Promise.{Promise}
use Rattle.observed.specs.declared.culprits.Culprit.{Culprit}
use Rattle.observed.specs.declared.pieces.Piece.{Piece}
use Rattle.observed.specs.declared.shares.Whom.TheVariants.{Job, Below, Foreign, Anyone}

-- the last of these jobs that is of the task with a name, else what came before them
abbrev pub last_from : List ℕ → Option TraceJob → List TraceJob → Option TraceJob
last_from name last [] = last
last_from name last (j ∷ js) =
    last_from name (if same_bytes j.name name then Some j else last) js

-- the last of these jobs that is of the task with a name
abbrev pub last_job : List ℕ → List TraceJob → Option TraceJob
last_job name jobs = last_from name None jobs

-- a time from the arrival of a job, if there is one
abbrev pub gap_since : Option TraceJob → ℕ → Option ℕ
gap_since before time = option_map (λ b. time - b.arrival) before

-- the least time between two arrivals as they are seen: the first may be seen late by the jitter, where it isn't said when
-- its job was ready
abbrev pub closest_to : Promise → Option TraceJob → ℕ
closest_to promise None = promise.period
closest_to promise (Some before) =
    if is_some before.ready then promise.period else promise.period - promise.jitter

-- when a job finished, or the end of the trace
abbrev pub until_of : ℕ → TraceJob → ℕ
until_of end job = unwrap_or job.finish end

-- when a job is ready: when it says so, or its task's jitter after its arrival, at the latest. It waits from then to its
-- finish, or to the end
abbrev pub ready_by : Promise → TraceJob → ℕ
ready_by promise job = max job.arrival (unwrap_or job.ready (job.arrival + promise.jitter))

-- for how long it waits for sure
abbrev pub waited_of : Promise → ℕ → TraceJob → ℕ
waited_of promise end job = until_of end job - ready_by promise job

-- how long after its arrival it was ready, where it says so
abbrev pub delay_of : TraceJob → Option ℕ
delay_of job = option_map (λ r. r - job.arrival) job.ready

-- tasks below a level execute for longer, while a job waits, than they may
abbrev pub is_blocked_past : List Task → Promise → ℕ → ℕ → List Piece → TraceJob → Bool
is_blocked_past U promise level end pieces job =
    nat_lt (promise.blocking + interrupts_within U (waited_of promise end job))
    (time_in (Below level) (ready_by promise job) (until_of end job) pieces)

-- which of them, where they do so
abbrev pub culprits_of : Bool → List Promise → Promise → ℕ → ℕ → List Piece → TraceJob → List Culprit
culprits_of is_past promises promise level end pieces job =
    if is_past
    then culprits_below promises (ready_by promise job) (until_of end job) pieces level
    else []

-- threads that the set doesn't have execute for longer, while it waits, than timers and interrupts may take
abbrev pub is_taken_past : List Task → Promise → ℕ → List Piece → TraceJob → Bool
is_taken_past U promise end pieces job =
    nat_lt (interrupts_within U (waited_of promise end job))
    (time_in Foreign (ready_by promise job) (until_of end job) pieces)

-- who of them does so longest, where they do
abbrev pub stranger_of : Bool → Promise → ℕ → List Piece → TraceJob → Option (List ℕ)
stranger_of is_past promise end pieces job =
    if is_past then longest_stranger (ready_by promise job) (until_of end job) pieces else None

-- what is seen of a job of a set behind these, whose task has this level. What timers and interrupts may take of its whole
-- time it may execute beside its cost; what they may take while it waits, it may be blocked for beside its blocking, and
-- others may take, or nobody
abbrev pub seen_job : List Task → List Promise → Promise → ℕ → ℕ → List Piece → List TraceJob → TraceJob → SeenData
seen_job U promises promise level end pieces before job =
    record {
      level = level;
      promise = promise;
      arrival = job.arrival;
      gap = gap_since (last_job job.name before) job.arrival;
      closest = closest_to promise (last_job job.name before);
      delay = delay_of job;
      is_finished = is_some job.finish;
      lasted = until_of end job - job.arrival;
      executed = time_in (Job (length before)) job.arrival (until_of end job) pieces;
      stray = stray_in U promises promise (length before) job.arrival (until_of end job) pieces;
      may_execute = promise.cost + interrupts_within U (until_of end job - job.arrival);
      blocked = time_in (Below level) (ready_by promise job) (until_of end job) pieces;
      culprits = culprits_of (is_blocked_past U promise level end pieces job) promises promise level end pieces
          job;
      may_be_blocked = promise.blocking + interrupts_within U (waited_of promise end job);
      foreign = time_in Foreign (ready_by promise job) (until_of end job) pieces;
      stranger = stranger_of (is_taken_past U promise end pieces job) promise end pieces job;
      idle = until_of end job - ready_by promise job
          - time_in Anyone (ready_by promise job) (until_of end job) pieces;
      may_be_taken = interrupts_within U (waited_of promise end job);
    }
