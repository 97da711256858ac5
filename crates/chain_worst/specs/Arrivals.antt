-- When the jobs of a task arrive in the run that a chain's bound describes: those of the chain's tasks from the start on, each a
-- period after the one before, so that one is the aim; those of the others where they stand against an aim.
use Rattle.std.specs.Prelude.{ℕ, zero, suc, ◌+◌, ◌-◌, ◌%◌, ◌&&◌, ◌==◌, min, max, nat_lt, if◌then◌else◌, List, [], ◌∷◌, Option, Some, None, unwrap_or}
use Rattle.std.specs.List.{find, list_any}
use Rattle.task_sheet.specs.Sheet.{Task}
use Rattle.task_sheet.specs.Indexes.{indexes_of}
use Rattle.ceiling_kernel.specs.Waits.{lateness_of}
use Rattle.ceiling_kernel.specs.declared.trace.Release.{Release}
use Rattle.chain_worst.specs.declared.aims.Aim.{Aim}
use Rattle.chain_worst.specs.declared.aims.BlockerStart.{BlockerStart}
use Rattle.chain_worst.specs.declared.arrivals.Window.{Window}

-- ---- against an aim
-- the one job of the task that blocks it
abbrev pub start_window : (rank until : ℕ) → Option BlockerStart → Option Window
start_window rank until None = None
start_window rank until (Some b) =
    if b.task == rank then Some (record { from = b.time; to = min (b.time + 1) until }) else None

-- Jobs of a task above it arrive from when the first becomes ready with it, if that is as late as it may be, until the aim is
-- done, or the run.
abbrev pub window_of : Task → (rank until : ℕ) → Aim → Option Window
window_of t rank until m =
    if indexes_of m.above rank
    then Some (record { from = m.ready - lateness_of t; to = min (m.arrival + m.response) until })
    else start_window rank until m.blocker

-- ---- the next arrival
-- the first time from another on within a window, if there is one
abbrev pub in_window : Option Window → (time : ℕ) → Option ℕ
in_window None time = None
in_window (Some w) time = if nat_lt time w.to then Some (max time w.from) else None

-- of a task outside the chain the first time from another on at which a job stands against one of these aims, or the end
abbrev pub against : Task → (rank until : ℕ) → List Aim → (time : ℕ) → ℕ
against t rank until [] time = max time until
against t rank until (m ∷ aims) time =
    unwrap_or (in_window (window_of t rank until m) time) (against t rank until aims time)

-- of a task with an aim, or one without
abbrev pub next_by : Option Aim → Task → (time other : ℕ) → ℕ
next_by None t time other = other
next_by (Some m) t time other = max time (m.arrival % t.period)

-- the aim of a task
abbrev pub own_aim : (rank : ℕ) → List Aim → Option Aim
own_aim rank aims = find (λ m. m.task == rank) aims

-- when the next job of a task arrives that may arrive from a time on
abbrev pub next_of : Task → (rank until : ℕ) → List Aim → (time : ℕ) → ℕ
next_of t rank until aims time =
    next_by (own_aim rank aims) t time (against t rank until aims time)

-- when job k arrives: each a period after the one before, or later
unfoldable pub arrival_at : Task → (rank until : ℕ) → List Aim → (k : ℕ) → ℕ
arrival_at t rank until aims zero = next_of t rank until aims 0
arrival_at t rank until aims (suc k) =
    next_of t rank until aims (arrival_at t rank until aims k + t.period)

-- ---- its release
-- how late a job is that arrives at a time: as late as it may be, where that makes it ready with an aim in the run
abbrev pub late_at : Task → (until : ℕ) → List Aim → (time : ℕ) → ℕ
late_at t until aims time =
    if nat_lt (time + lateness_of t) until && list_any (λ m. m.ready == time + lateness_of t) aims
    then lateness_of t
    else 0

-- it executes its cost
abbrev pub release_at : Task → (until : ℕ) → List Aim → (time : ℕ) → Release
release_at t until aims time =
    record { time = time; name = t.name; late = late_at t until aims time; runs = None }
