-- What a simulation keeps from event to event: the invariant of the body.
use Rattle.std.specs.Prelude.{◌≡◌, ℕ, ◌+◌, ◌-◌, ◌<◌, ◌≤◌, Bool, true, false, max, ◌&&◌, ◌||◌, nat_lt, nat_le, ◌==◌, if◌then◌else◌, Option, Some, None, IfNone, List, [], ◌∷◌, length, slice_index_or, reverse}
use Rattle.task_sheet.specs.Sheet.{task_at}
use Rattle.ceiling_kernel.specs.declared.tasks.NodeSection.{NodeSection}
use Rattle.ceiling_kernel.specs.declared.trace.Slice.{Slice}
use Rattle.ceiling_kernel.specs.declared.trace.Release.{Release}
use Rattle.ceiling_kernel.specs.declared.trace.RunFault.{RunFault}
use Rattle.ceiling_kernel.specs.declared.trace.RunFault.TheVariants as fault
use Rattle.ceiling_kernel.specs.declared.run.Pending.{Pending}
use Rattle.ceiling_kernel.specs.declared.run.Slices.{Slices}
use Rattle.ceiling_kernel.specs.declared.run.Simulation.{Simulation}
use Rattle.ceiling_kernel.specs.Lists.{listed, list_at, Queues, IsAlone}
use Rattle.ceiling_kernel.specs.NodeTasks.{is_within}
use Rattle.ceiling_kernel.specs.Tick.{Node, Job, job_at, level_in_order, held_ceiling, executed_before, picked}
use Rattle.ceiling_kernel.specs.Trace.{slices_before, finish_before}
use Rattle.ceiling_kernel.specs.Waits.{IsNode, AreLegalJobs, Overruns}
use Rattle.ceiling_kernel.specs.Releases.{task_number, runs_of, jobs_of, release_at}
use Rattle.ceiling_kernel.specs.Turns.{AreTurns, has_come}
use Rattle.ceiling_kernel.specs.Runs.{IsOverrun}

-- releases that are not refused, of tasks of the node, and their turns
pub record IsRunnable (node : Node) (rs : List Release) (turns : List (ℕ × ℕ)) : Type 0 where
  pub of_node : IsNode node
  pub known : (j : ℕ) → j < length rs → task_number node.tasks (release_at rs j) < length node.tasks
  pub in_cost : (j : ℕ) → j < length rs
      → (0 < runs_of node.tasks (release_at rs j))
      × (runs_of node.tasks (release_at rs j) ≤ (task_at node.tasks (task_number node.tasks (release_at rs j))).cost)
  pub legal : AreLegalJobs node (jobs_of node.tasks rs)
  pub in_turn : AreTurns (jobs_of node.tasks rs) turns

-- ---- sections, as they are kept
-- the highest ceiling that is held after e ticks
abbrev pub held_top : List NodeSection → ℕ → ℕ
held_top [] e = 0
held_top (s ∷ ss) e = max (if is_within s e then s.top else 0) (held_top ss e)

-- the first boundary above e, or the limit
abbrev pub next_change : List NodeSection → ℕ → ℕ → ℕ
next_change [] e limit = limit
next_change (s ∷ ss) e limit =
    if nat_le e s.at then s.at + 1 else (if nat_lt e s.stop then s.stop else next_change ss e limit)

-- the active priority of a job of task i that has executed e ticks
abbrev pub active_at : Node → ℕ → ℕ → ℕ
active_at node i e =
    max (level_in_order node i) (held_ceiling node (task_at node.tasks i).sections e)

-- ---- the pick among the slots
-- the better of one that was found before and a pending job
abbrev pub better_pending : Option Pending → Pending → Pending
better_pending None p = p
better_pending (Some q) p =
    if nat_lt q.active p.active || ((q.active == p.active) && nat_lt p.level q.level) then p else q

-- the best of the pending jobs in the slots, after one that was found before
abbrev pub best_slot : List (Option Pending) → Option Pending → Option Pending
best_slot [] found = found
best_slot (None ∷ slots) found = best_slot slots found
best_slot (Some p ∷ slots) found = best_slot slots (Some (better_pending found p))

-- ---- slices
-- the closed slices and the one that may still grow, the newest first
abbrev pub shown_of : List Slice → Option Slice → List Slice
shown_of closed None = []
shown_of closed (Some s) = s ∷ reverse closed

-- the slices so far, the newest first
abbrev pub slices_shown : Slices → List Slice
slices_shown s = shown_of s.closed.items s.current

-- nothing is closed before there is a current slice
abbrev pub IsTidy : Slices → Type 0
IsTidy s = IfNone s.current (s.closed.items ≡ [])

-- ---- the state
-- the pending job in the slot of task i, at tick t, where some jobs have come
pub record IsPending (node : Node) (jobs : List Job) (t : ℕ) (come : ℕ → Bool) (i : ℕ) (p : Pending) : Type 0 where
  pub released : come p.job ≡ true
  pub task : p.task ≡ i
  pub own : (job_at jobs p.job).task ≡ i
  pub level : p.level ≡ level_in_order node i
  pub executed : p.executed ≡ executed_before node jobs t p.job
  pub active : p.active ≡ active_at node i p.executed
  pub unfinished : p.executed < (job_at jobs p.job).executes

-- at tick t, where those jobs have come, the slot of each task holds its pending job
pub record Kept (node : Node) (jobs : List Job) (t : ℕ) (come : ℕ → Bool) (slots : List (Option Pending)) : Type 0 where
  pub within : (j : ℕ) → come j ≡ true → j < length jobs
  pub admitted : (j : ℕ) → come j ≡ true → (job_at jobs j).ready ≤ t
  pub to_come : (j : ℕ) → come j ≡ false → j < length jobs → t ≤ (job_at jobs j).ready
  pub slot_count : length slots ≡ length node.tasks
  pub pending : (i : ℕ) (p : Pending) → slice_index_or slots i None ≡ Some p
      → IsPending node jobs t come i p
  pub complete : (j : ℕ) → come j ≡ true
      → executed_before node jobs t j < (job_at jobs j).executes
      → (p : Pending) × (slice_index_or slots (job_at jobs j).task None ≡ Some p) × (p.job ≡ j)
  pub no_overrun : (k : ℕ) → come k ≡ true → ¬ Overruns node jobs k

-- when each job finished, so far
pub record AreFinishes (node : Node) (rs : List Release) (t : ℕ) (finishes : List (Option ℕ)) : Type 0 where
  pub count : length finishes ≡ length rs
  pub each : (j : ℕ) → j < length rs → slice_index_or finishes j None
      ≡ finish_before node (jobs_of node.tasks rs) t j

-- the state is that of the tick rule at its time
pub record IsRunning (node : Node) (rs : List Release) (turns : List (ℕ × ℕ)) (s : Simulation) : Type 0 where
  pub kept : Kept node (jobs_of node.tasks rs) s.now (has_come turns s.next) s.slots.items
  pub list_count : length s.lists.items ≡ length node.tasks + 1
  pub queues : Queues (λ i. slice_index_or s.slots.items i None) (list_at (listed s.lists.items))
  pub alone : IsAlone (λ i. slice_index_or s.slots.items i None)
  pub slices : slices_shown s.slices ≡ slices_before (picked node (jobs_of node.tasks rs)) s.now
  pub tidy : IsTidy s.slices
  pub finishes : AreFinishes node rs s.now s.finishes.items

-- what is still ahead: ticks and turns
abbrev pub ahead_of : List (ℕ × ℕ) → ℕ → Simulation → ℕ
ahead_of turns until s = (until - s.now) + (length turns - s.next)

-- one event on: less is ahead
pub record IsFurther (node : Node) (rs : List Release) (turns : List (ℕ × ℕ)) (until : ℕ) (old new : Simulation) : Type 0 where
  pub running : IsRunning node rs turns new
  pub bounded : new.now ≤ until
  pub less : ahead_of turns until new < ahead_of turns until old

-- why a run may stop
abbrev pub IsStop : Node → List Release → RunFault → Type 0
IsStop node rs fault.OutOfMemory = Unit {0}
IsStop node rs (fault.Overrun name time) = IsOverrun node rs name time
IsStop node rs e = ⊥
