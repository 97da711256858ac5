-- The jobs that the bound of a chain counts, one of each of its tasks. Each arrives as late as it may behind a job of its
-- task that came a tick too early to read the one before it, or on the chain's clock, and is as late, and takes as long, as it
-- may. Where the tasks write at their deadlines, a job comes too early a tick before that one writes, however late that is and
-- long it takes.
use Rattle.std.specs.Prelude.{◌≡◌, ℕ, ◌+◌, ◌-◌, ◌*◌, max, List, [], ◌∷◌, length, Option, Some, None, option_map, unwrap_or, slice_get}
use Rattle.task_sheet.specs.Sheet.{Task, CriticalSection, task_at}
use Rattle.task_sheet.specs.Demand.{greatest_of}
use Rattle.task_sheet.specs.Indexes.{among, indexes_of}
use Rattle.ceiling_kernel.specs.Bounds.{after_of}
use Rattle.ceiling_kernel.specs.Waits.{lateness_of}
use Rattle.explain.specs.Blocking.{BlockerData, IsBlockerOf}
use Rattle.chains.specs.Gaps.{gap_of}
use Rattle.chains.specs.Parts as parts
use Rattle.chains.specs.Walks.{arrival_from, longest_start, starts_of}
use Rattle.chains.specs.declared.bounds.Level.{Level}
use Rattle.chains.specs.declared.walks.Step.{Step}
use Rattle.chain_worst.specs.declared.aims.Aim.{Aim}
use Rattle.chain_worst.specs.declared.aims.BlockerStart.{BlockerStart}

-- ---- where it begins
-- each task of the chain has had a job by then, and whatever leads up to an aim arrives at time 0 or later
abbrev pub begin_of : List Task → (tasks : List ℕ) → ℕ
begin_of U tasks =
    max (greatest_of (λ i. gap_of (task_at U i)) tasks) (greatest_of (λ t. max t.cost (lateness_of t)) U)

-- how long until all tasks of a chain with these steps arrive as at first, where the first one's offset is known
abbrev pub round_of : List Step → ℕ
round_of [] = 0
round_of (s ∷ steps) = length (unwrap_or (starts_of (s ∷ steps)) []) * s.period

-- when a job of the first task comes too early: then, or on the clock the first time from then on at which a longest span begins
abbrev pub early_by : Option ℕ → List Step → (begin : ℕ) → ℕ
early_by None steps begin = begin
early_by (Some offset) steps begin = arrival_from (longest_start steps) (round_of steps) begin

abbrev pub early_of : List Step → (begin : ℕ) → ℕ
early_of [] begin = begin
early_of (s ∷ steps) begin = early_by s.offset (s ∷ steps) begin

-- ---- an aim
-- when the job arrives that blocks it: it has executed the first tick of its section when the aim is ready
abbrev pub before_tick : (ready : ℕ) → Option CriticalSection → ℕ
before_tick ready None = ready
before_tick ready (Some s) = ready - s.at - 1

abbrev pub blocker_start : List Task → (ready : ℕ) → BlockerData → BlockerStart
blocker_start U ready b =
    record { task = b.task; time = before_tick ready (slice_get (task_at U b.task).sections b.place) }

abbrev pub start_of : List Task → (ready : ℕ) → Option BlockerData → Option BlockerStart
start_of U ready b = option_map (blocker_start U ready) b

-- the job that blocks task i, which is ready then, if there is one
abbrev pub IsStartOf : List Task → List Level → (i ready : ℕ) → Option BlockerStart → Type 0
IsStartOf U levels i ready start =
    (b : Option BlockerData) × IsBlockerOf U i (among (after_of (parts.order_of levels) i)) b
    × (start ≡ start_of U ready b)

-- the aim of task i, which arrives at a time
pub record IsAim (U : List Task) (levels : List Level) (i time : ℕ) (m : Aim) : Type 0 where
  pub task : m.task ≡ i
  pub above : indexes_of m.above ≡ among (after_of (parts.order_of levels) i)
  pub arrival : m.arrival ≡ time
  pub ready : m.ready ≡ time + lateness_of (task_at U i)
  pub response : m.response ≡ parts.time_in levels i
  pub blocker : IsStartOf U levels i m.ready m.blocker

-- ---- all of them
-- when the aim arrives that reads what comes to its task at a time: a period after a job a tick before, or on the clock, where the
-- task's offset is known, as the first from then on
abbrev pub aim_time : Option ℕ → (period time : ℕ) → ℕ
aim_time None period time = time + (period - 1)
aim_time (Some offset) period time = arrival_from offset period time

-- these are the aims of tasks with these steps, where something comes to the first at a time
abbrev pub AreAims : List Task → List Level → List Step → (time : ℕ) → (tasks : List ℕ) → List Aim → Type 0
AreAims U levels [] time tasks aims = aims ≡ []
AreAims U levels (s ∷ steps) time [] aims = aims ≡ []
AreAims U levels (s ∷ steps) time (i ∷ others) [] = ⊥
AreAims U levels (s ∷ steps) time (i ∷ others) (m ∷ aims) =
    IsAim U levels i (aim_time s.offset s.period time) m
    × AreAims U levels steps (aim_time s.offset s.period time + s.delay) others aims

-- the run ends when the last aim is done, or writes
abbrev pub end_of : List Step → (time : ℕ) → ℕ
end_of [] time = time
end_of (s ∷ steps) time = end_of steps (aim_time s.offset s.period time + s.delay)
