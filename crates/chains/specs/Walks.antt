-- How long it may take along a chain from an arrival of its first task to what is written of the next one (Davare et al. 2007;
-- on one clock Kloda et al. 2018, with a smaller part at each handover).
use Rattle.std.specs.Prelude.{◌≡◌, ◌≤◌, ℕ, zero, suc, ◌+◌, ◌-◌, ◌*◌, ◌%◌, ◌==◌, nat_lt, Bool, true, List, [], ◌∷◌, drop, find, unwrap_or, option_map, Option, Some, None, if◌then◌else◌}
use Rattle.std.specs.Int.{next_multiple_of}
use Rattle.std.specs.List.{AllZip, list_all}
use Rattle.task_sheet.specs.Sheet.{Task, task_at}
use Rattle.task_sheet.specs.Demand.{greatest_of}
use Rattle.chains.specs.Gaps.{gap_of}
use Rattle.chains.specs.declared.walks.Step.{Step}
use Rattle.chains.specs.declared.walks.TheConstants.{ARRIVAL_LIMIT}

-- ---- arrivals
-- the first arrival at t or later of a task that arrives at its offset and each period from there on
abbrev pub arrival_from : (offset period t : ℕ) → ℕ
arrival_from offset period t = offset + next_multiple_of (t - offset) period

-- by when a job arrives that comes at t or later: within a period, where the task's offset isn't known
abbrev pub next_by : Option ℕ → (period t : ℕ) → ℕ
next_by None period t = t + period
next_by (Some offset) period t = arrival_from offset period t

-- so many arrivals of a task, from the first of them on
abbrev pub arrivals : (first period many : ℕ) → List ℕ
arrivals first period zero = []
arrivals first period (suc many) = first ∷ arrivals (first + period) period many

-- ---- walks
-- when what comes to the first of these tasks at t is written by the last one
abbrev pub walk_from : List Step → (t : ℕ) → ℕ
walk_from [] t = t
walk_from (s ∷ steps) t = walk_from steps (next_by s.offset s.period t + s.delay)

-- how long after an arrival of the first task at t what its next job reads is written: that one comes a period later
abbrev pub span_from : List Step → (t : ℕ) → ℕ
span_from [] t = 0
span_from (s ∷ steps) t = walk_from steps (t + s.period + s.delay) - t

-- ---- where walks begin
-- an offset, where it is known, is below the period
abbrev pub is_below : Option ℕ → (period : ℕ) → Bool
is_below None period = true
is_below (Some offset) period = nat_lt offset period

-- that of each task is
abbrev pub are_below : List Step → Bool
are_below steps = list_all (λ s. is_below s.offset s.period) steps

-- the time is a number of whole periods of each task
abbrev pub are_whole : List Step → (time : ℕ) → Bool
are_whole steps time = list_all (λ s. time % s.period == 0) steps

-- the first of so many numbers from n on of which so many periods are whole periods of each task
unfoldable pub first_whole : List Step → (period : ℕ) → (many n : ℕ) → Option ℕ
first_whole steps period zero n = None
first_whole steps period (suc many) n =
    if are_whole steps (n * period) then Some n else first_whole steps period many (n + 1)

-- where walks begin: at 0, where the first task's offset isn't known, for then all take the same time; else at its arrivals until
-- all tasks arrive as at first, of which there are none past ARRIVAL_LIMIT, nor where an offset isn't below its period
abbrev pub starts_by : Option ℕ → (period : ℕ) → List Step → Option (List ℕ)
starts_by None period steps = Some (0 ∷ [])
starts_by (Some offset) period steps =
    if are_below steps
    then option_map (λ n. arrivals offset period n) (first_whole steps period ARRIVAL_LIMIT 1)
    else None

abbrev pub starts_of : List Step → Option (List ℕ)
starts_of [] = Some (0 ∷ [])
starts_of (s ∷ steps) = starts_by s.offset s.period (s ∷ steps)

-- ---- the longest
-- how long the longest of them takes; none past that limit
abbrev pub bound_by : List Step → Option ℕ
bound_by steps = option_map (λ ts. greatest_of (λ t. span_from steps t) ts) (starts_of steps)

-- the first of these from which one takes so long
abbrev pub start_with : List Step → (span : ℕ) → List ℕ → ℕ
start_with steps span ts = unwrap_or (find (λ t. span_from steps t == span) ts) 0

-- where the first of the longest begins
abbrev pub longest_start : List Step → ℕ
longest_start steps = start_with steps (unwrap_or (bound_by steps) 0) (unwrap_or (starts_of steps) [])

-- ---- the steps of a chain
-- the first of these numbers, where there is one
abbrev pub first_known : List ℕ → Option ℕ
first_known [] = None
first_known (n ∷ ns) = Some n

-- the step of a task: its period, its offset, none where they aren't known, and how long the part behind its wait takes
abbrev pub step_of : List Task → (offsets : List ℕ) → (i delay : ℕ) → Step
step_of U offsets i delay =
    record { period = gap_of (task_at U i); offset = first_known offsets; delay = delay }

-- those of tasks with these offsets and delays
abbrev pub steps_with : List Task → (offsets delays tasks : List ℕ) → List Step
steps_with U offsets delays [] = []
steps_with U offsets delays (i ∷ tasks) =
    step_of U offsets i (unwrap_or (first_known delays) 0)
    ∷ steps_with U (drop 1 offsets) (drop 1 delays) tasks

-- ---- what the laws say of them
-- the one task's part takes no longer than the other's, all else equal
pub record IsNoLonger (one other : Step) : Type 0 where
  pub period : one.period ≡ other.period
  pub offset : one.offset ≡ other.offset
  pub delay : one.delay ≤ other.delay

-- steps that are no longer one by one have no longer bound
abbrev pub NoLongerSteps : Type 0
NoLongerSteps =
    (steps others : List Step) (bound other : ℕ) → AllZip IsNoLonger steps others
    → bound_by steps ≡ Some bound → bound_by others ≡ Some other → bound ≤ other
