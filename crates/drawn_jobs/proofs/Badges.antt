-- The last badges of a row.
use Rattle.std.proofs.Common.{◌≡◌, ℕ, ◌+◌, List, refl, add-one}
use Rattle.std.specs.Prelude.{None}
use Rattle.ceiling_kernel.specs.declared.trace.JobRecord.{JobRecord}
use Rattle.frames.specs.declared.rows.TaskRow.{TaskRow}
use Rattle.frames.specs.Frame.{Frame}
use Rattle.drawn_jobs.specs.Misses.{badge_after, badge_before}
use Rattle.frames.specs.PictureRows.{record_at}

-- none before the first job
pub no_badge : (f : Frame) (row : TaskRow) (jobs : List JobRecord)
    → badge_before f row jobs 0 ≡ None
unfolding badge_before
no_badge f row jobs = refl

-- one job more
pub badge_more : (f : Frame) (row : TaskRow) (jobs : List JobRecord) (n : ℕ)
    → badge_before f row jobs (n + 1)
    ≡ badge_after f row (badge_before f row jobs n) (record_at jobs n)
unfolding badge_before
badge_more f row jobs n = rw (add-one n) refl
