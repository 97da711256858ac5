-- Why a job doesn't execute while it is ready: a task above executes, or one below that blocks it.
use Rattle.std.specs.Prelude.{ℕ, ◌+◌, ◌-◌, ◌<◌, ◌≤◌, min, Bool, false, ◌&&◌, ◌||◌, ◌==◌, nat_le, nat_lt, if◌then◌else◌, Option, Some, None, List, slice_get}
use Rattle.std.specs.Option.{option_map, option_and_then}
use Rattle.ceiling_kernel.specs.declared.trace.Release.{Release}
use Rattle.ceiling_kernel.specs.declared.trace.JobRecord.{JobRecord}
use Rattle.ceiling_kernel.specs.declared.trace.Slice.{Slice}
use Rattle.pieces.specs.Pieces.{wait_in}
use Rattle.frames.specs.declared.chart.Chart.{Chart}
use Rattle.frames.specs.declared.rows.TaskRow.{TaskRow}
use Rattle.frames.specs.declared.tones.Toned.{Toned}
use Rattle.picture.specs.declared.waits.Stay.{Stay}
use Rattle.picture.specs.declared.waits.Wait.{Wait}
use Rattle.frames.specs.Frame.{Frame, x_of, ended}
use Rattle.frames.specs.PictureRows.{row_named, record_at}
use Rattle.frames.specs.Slices.{slice_at}

-- what waits are drawn from: how time lies, the locks, the rows and which of them are shown, and what happened in the run
pub record Scene : Type 0 where
  pub frame : Frame
  pub locks : List Toned
  pub rows : List TaskRow
  pub shown : List ℕ
  pub releases : List Release
  pub jobs : List JobRecord
  pub slices : List Slice

-- that of a chart
abbrev pub scene_of : Chart → Scene
scene_of c = record {
  frame = c.frame;
  locks = c.locks.now;
  rows = c.rows.now;
  shown = c.shown.now;
  releases = c.releases.now;
  jobs = c.jobs.now;
  slices = c.slices.now;
}

-- ---- which waits a job has
-- when the job of a release is ready, which is within the run; at the beginning, where there is none
abbrev pub ready_at : Frame → Option Release → ℕ
ready_at f None = 0
ready_at f (Some r) = min r.time f.until + min r.late f.until

-- a job, and from when to when it is ready and not done
abbrev pub stay_of : Scene → ℕ → Stay
stay_of c j = record {
  job = j;
  from = ready_at c.frame (slice_get c.releases j);
  to = ended c.frame (record_at c.jobs j);
}

-- a piece in which a task of a row executes
abbrev pub wait_for : Slice → (row : ℕ) → Wait
wait_for p m = record { start = p.start; stop = p.stop; row = m }

-- from when to when a job waits in a slice, and for which row: that of the task of the job that executes
abbrev pub wait_during : Scene → Stay → Slice → Option Wait
wait_during c stay s =
    option_and_then (λ p. option_and_then (λ job. option_map (wait_for p) (row_named c.rows job.name))
    (slice_get c.jobs s.job)) (wait_in stay.job stay.from stay.to s)

-- the same in slice n, where there is one
abbrev pub wait_at : Scene → Stay → ℕ → Option Wait
wait_at c stay n = option_and_then (wait_during c stay) (slice_get c.slices n)

-- the same in the slice before it
abbrev pub wait_before : Scene → Stay → ℕ → Option Wait
wait_before c stay n = if n == 0 then None else wait_at c stay (n - 1)

-- ---- in which slices a job can't wait
-- the first n slices end by a time
abbrev pub EndBy : List Slice → (n time : ℕ) → Type 0
EndBy slices n time = (m : ℕ) → m < n → (slice_at slices m).stop ≤ time

-- ---- which of them are one line
-- a wait of row k for a task above is less than 4 pixels wide
abbrev pub is_short : Frame → (k : ℕ) → Wait → Bool
is_short f k w = nat_le w.row k && nat_lt (x_of f w.stop - x_of f w.start) 40

-- two of them touch, if both are there
abbrev pub are_close : Frame → (k : ℕ) → Option Wait → Option Wait → Bool
are_close f k None w = false
are_close f k (Some v) None = false
are_close f k (Some v) (Some w) = is_short f k v && is_short f k w && (v.stop == w.start)

-- the wait in slice n touches the one before it or the one behind it
abbrev pub is_gathered : Scene → Stay → (k n : ℕ) → Bool
is_gathered c stay k n =
    are_close c.frame k (wait_before c stay n) (wait_at c stay n)
    || are_close c.frame k (wait_at c stay n) (wait_at c stay (n + 1))
