-- The locks that a picture shows as held: those of its stripes.
use Rattle.std.specs.Prelude.{ℕ, zero, suc, ◌+◌, Bool, ◌&&◌, nat_lt, if◌then◌else◌, Option, Some, None, List, [], ◌∷◌, ◌++◌, length, slice_get}
use Rattle.std.specs.List.{filter, list_any}
use Rattle.task_sheet.specs.Sheet.{CriticalSection, same_bytes}
use Rattle.ceiling_kernel.specs.declared.trace.JobRecord.{JobRecord}
use Rattle.ceiling_kernel.specs.declared.trace.Slice.{Slice}
use Rattle.frames.specs.declared.rows.Spot.{Spot}
use Rattle.frames.specs.declared.rows.TaskRow.{TaskRow}
use Rattle.frames.specs.declared.tones.Toned.{Toned}
use Rattle.frames.specs.Frame.{Frame, sees}
use Rattle.frames.specs.Locks.{noted_names}
use Rattle.frames.specs.PictureRows.{row_at, spot_named}
use Rattle.frames.specs.Slices.{executed_in, slice_at}
use Rattle.drawn_jobs.specs.Sections.{dark_from, dark_to}

-- a job that has executed e ticks before a slice executes in it inside a section, in the window
abbrev pub holds_in : Frame → (e : ℕ) → Slice → CriticalSection → Bool
holds_in f e s x =
    nat_lt (dark_from x e) (dark_to x e s)
    && sees f (s.start + dark_from x e) (s.start + dark_to x e s)

-- the locks of a section then, and some before
abbrev pub held_with : Frame → (e : ℕ) → Slice → List (List ℕ) → CriticalSection → List (List ℕ)
held_with f e s held x = if holds_in f e s x then noted_names held x.locks else held

-- those of some sections
abbrev pub held_inside : Frame → (e : ℕ) → Slice → List (List ℕ) → List CriticalSection → List (List ℕ)
held_inside f e s held [] = held
held_inside f e s held (x ∷ sections) = held_inside f e s (held_with f e s held x) sections

-- those of the task of a row that is shown, if there is one
abbrev pub held_in_spot : Frame → List TaskRow → (e : ℕ) → Slice → List (List ℕ) → Option Spot → List (List ℕ)
held_in_spot f rows e s held None = held
held_in_spot f rows e s held (Some spot) =
    held_inside f e s held (row_at rows spot.rank).sheet.sections

-- those of a job's task, if there is one
abbrev pub held_by : Frame → List TaskRow → (shown : List ℕ) → (e : ℕ) → Slice → List (List ℕ) → Option JobRecord → List (List ℕ)
held_by f rows shown e s held None = held
held_by f rows shown e s held (Some job) =
    held_in_spot f rows e s held (spot_named rows shown job.name)

-- those of the first n slices
unfoldable pub held_before : Frame → List TaskRow → (shown : List ℕ) → List JobRecord → List Slice → ℕ → List (List ℕ)
held_before f rows shown jobs slices zero = []
held_before f rows shown jobs slices (suc n) =
    held_by f rows shown (executed_in slices n (slice_at slices n).job) (slice_at slices n)
    (held_before f rows shown jobs slices n) (slice_get jobs (slice_at slices n).job)

-- a lock is one of some names
abbrev pub is_held : List (List ℕ) → Toned → Bool
is_held held lock = list_any (λ n. same_bytes n lock.name) held

-- of the locks those that are held in the window by tasks of rows that are shown
abbrev pub held_locks : Frame → List Toned → List TaskRow → (shown : List ℕ) → List JobRecord → List Slice → List Toned
held_locks f locks rows shown jobs slices =
    filter (is_held (held_before f rows shown jobs slices (length slices))) locks

-- the same where they are held in either of two runs, with what is noted of each
abbrev pub held_beside : List Toned → (old new : List (List ℕ)) → List Toned
held_beside locks old new = filter (is_held (old ++ new)) locks
