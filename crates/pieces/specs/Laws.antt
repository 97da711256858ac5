-- Each instant lies in one piece, and each job in one band.
use Rattle.std.specs.Prelude.{◌≡◌, ℕ, suc, ◌<◌, ◌≤◌, ◌⊎◌, Bool, ◌&&◌, nat_le, nat_lt, if◌then◌else◌, List, [], ◌∷◌, length, IsTrue}
use Rattle.std.specs.Option.{unwrap_or}
use Rattle.task_sheet.specs.Indexes.{sum_below}
use Rattle.ceiling_kernel.specs.declared.trace.JobRecord.{JobRecord}
use Rattle.ceiling_kernel.specs.declared.trace.Slice.{Slice}
use Rattle.ceiling_kernel.specs.Tick.{Node, Job, job_at}
use Rattle.ceiling_kernel.specs.Trace.{slices_of, finish_before}
use Rattle.pieces.specs.Pieces.{pieces_of}
use Rattle.pieces.specs.Bands.{joins, band_of, holds_job}

-- the tick that begins at a time lies in a slice
abbrev pub holds : ℕ → Slice → Bool
holds t s = nat_le s.start t && nat_lt t s.stop

-- in how many of some slices it lies
abbrev pub holding : ℕ → List Slice → ℕ
holding t [] = 0
holding t (s ∷ slices) = if holds t s then suc (holding t slices) else holding t slices

-- up to when a job executes or waits in a run that ends at a time: its finish, or the end
abbrev pub end_of : Node → List Job → (until j : ℕ) → ℕ
end_of node jobs until j = unwrap_or (finish_before node jobs until j) until

-- the pieces of a job of a run
abbrev pub pieces_in : Node → List Job → (until j : ℕ) → List Slice
pieces_in node jobs until j =
    pieces_of (job_at jobs j).ready (end_of node jobs until j) (slices_of node jobs until)

-- each tick from when a job is ready up to its finish lies in one of its pieces, and each other tick in none
abbrev pub CoverOnce : Type 0
CoverOnce =
    (node : Node) (jobs : List Job) (until j t : ℕ) → j < length jobs → 0 < (job_at jobs j).executes
    → ((job_at jobs j).ready ≤ t → t < end_of node jobs until j
    → holding t (pieces_in node jobs until j) ≡ 1)
    × ((t < (job_at jobs j).ready) ⊎ (end_of node jobs until j ≤ t)
    → holding t (pieces_in node jobs until j) ≡ 0)

-- how many jobs are counted at place n: none where job n joins one before it, else those of its band
abbrev pub counted_at : (gap : ℕ) → List JobRecord → ℕ → ℕ
counted_at gap jobs n = if joins gap jobs n then 0 else length (band_of gap jobs n)

-- each job is in exactly one band; with what is counted at all places, each is counted once
abbrev pub CountOnce : Type 0
CountOnce =
    (gap : ℕ) (jobs : List JobRecord) → ((j : ℕ) → j < length jobs
    → (n : ℕ) × IsTrue (holds_job gap jobs n j)
    × ((m : ℕ) → IsTrue (holds_job gap jobs m j) → m ≡ n))
    × (sum_below (length jobs) (counted_at gap jobs) ≡ length jobs)
