-- How many responses changed.
use Rattle.std.proofs.Common.{◌≡◌, ℕ, ◌+◌, List, refl, add-one}
use Rattle.std.specs.Prelude.{slice_get}
use Rattle.ceiling_kernel.specs.declared.trace.JobRecord.{JobRecord}
use Rattle.frames.specs.PictureRows.{record_at}
use Rattle.drawn_jobs.specs.Changes.{changed_before, counted_with, has_changed}

-- of no job
pub changed_none : (end : ℕ) (old jobs : List JobRecord) → 0 ≡ changed_before end old jobs 0
unfolding changed_before
changed_none end old jobs = refl

-- of one job more
pub changed_more : (end : ℕ) (old jobs : List JobRecord) (n : ℕ)
    → changed_before end old jobs (n + 1) ≡ counted_with
    (has_changed end (record_at jobs n) (slice_get old n)) (changed_before end old jobs n)
unfolding changed_before
changed_more end old jobs n = rw (add-one n) refl
