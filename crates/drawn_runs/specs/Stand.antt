-- Where the jobs of a picture stand: alone, or in a band.
use Rattle.std.specs.Prelude.{◌≡◌, ℕ, ◌+◌, ◌<◌, ◌≤◌, Bool, nat_lt, if◌then◌else◌, Some, List, length, IsTrue}
use Rattle.task_sheet.specs.Demand.{greatest_of}
use Rattle.ceiling_kernel.specs.declared.trace.JobRecord.{JobRecord}
use Rattle.run_lines.specs.Reached.{done_of, response_of}
use Rattle.pieces.specs.Bands.{arrival_of, band_of, holds_job, is_banded, stretch_of}
use Rattle.frames.specs.declared.rows.TaskRow.{TaskRow}
use Rattle.drawn_jobs.specs.Bands.{gap_of, place_text, seen_band}
use Rattle.drawn_jobs.specs.Jobs.{limit_of, seen_job}
use Rattle.frames.specs.Frame.{Frame, sees}
use Rattle.frames.specs.PictureRows.{on_spot, place_in, record_at, row_at, row_named}

-- the jobs stand by their arrivals
abbrev pub AreByArrival : List JobRecord → Type 0
AreByArrival jobs =
    (i j : ℕ) → i ≤ j → j < length jobs → (record_at jobs i).release ≤ (record_at jobs j).release

-- the box of a job in a row is partly in the window: it reaches from the arrival to the bound or deadline
abbrev pub sees_job : Frame → TaskRow → JobRecord → Bool
sees_job f row job = sees f job.release (job.release + limit_of row)

-- how many jobs stand at place n
abbrev pub count_at : Frame → List JobRecord → (n : ℕ) → ℕ
count_at f jobs n = length (band_of (gap_of f) jobs n)

-- when the latest of them arrives
abbrev pub latest_at : Frame → List JobRecord → (n : ℕ) → ℕ
latest_at f jobs n = greatest_of arrival_of (band_of (gap_of f) jobs n)

-- the box of place n in a row is partly in the window: it reaches from the first arrival to the bound or deadline of
-- the latest
abbrev pub sees_place : Frame → TaskRow → List JobRecord → (n : ℕ) → Bool
sees_place f row jobs n = sees f (record_at jobs n).release (latest_at f jobs n + limit_of row)

-- what the document has of place n
abbrev pub text_at : Frame → List TaskRow → (shown : List ℕ) → List JobRecord → (n : ℕ) → List ℕ
text_at f rows shown jobs n =
    on_spot rows shown (record_at jobs n).name (λ s. place_text f jobs n s.k)

-- the jobs of the task at place n that are done
abbrev pub done_at : Frame → List JobRecord → (n : ℕ) → List JobRecord
done_at f jobs n = done_of (record_at jobs n).name (stretch_of (gap_of f) jobs n)

-- the band of place n in row k, in the window
abbrev pub band_at : Frame → List JobRecord → (n k : ℕ) → TaskRow → List ℕ
band_at f jobs n k row =
    seen_band f k row (record_at jobs n) (stretch_of (gap_of f) jobs n) (count_at f jobs n)
    (latest_at f jobs n) (length (done_at f jobs n)) (greatest_of response_of (done_at f jobs n))

-- that, where more than one job stand there; else the job alone, in the window
abbrev pub drawn_at : Frame → List JobRecord → (n k : ℕ) → TaskRow → List ℕ
drawn_at f jobs n k row =
    if nat_lt 1 (count_at f jobs n) then band_at f jobs n k row
    else seen_job f (record_at jobs n) k row

-- job j is of the task of a row that is shown, at place k of the picture, and its box there is partly in the window
pub record IsSeenAt (f : Frame) (rows : List TaskRow) (shown : List ℕ) (jobs : List JobRecord) (j rank k : ℕ) : Type 0 where
  pub is_job : j < length jobs
  pub row : row_named rows (record_at jobs j).name ≡ Some rank
  pub shown_at : place_in shown rank ≡ Some k
  pub seen : IsTrue (sees_job f (row_at rows rank) (record_at jobs j))

-- job j stands in exactly one place, with others exactly where it is in a band; the box of that place is in the window,
-- and is what the document has of it
pub record StandsOnce (f : Frame) (rows : List TaskRow) (shown : List ℕ) (jobs : List JobRecord) (j rank k : ℕ) : Type 0 where
  pub place : ℕ
  pub holds : IsTrue (holds_job (gap_of f) jobs place j)
  pub only : (m : ℕ) → IsTrue (holds_job (gap_of f) jobs m j) → m ≡ place
  pub banded : is_banded (gap_of f) jobs j ≡ nat_lt 1 (count_at f jobs place)
  pub seen : IsTrue (sees_place f (row_at rows rank) jobs place)
  pub drawn : text_at f rows shown jobs place ≡ drawn_at f jobs place k (row_at rows rank)
