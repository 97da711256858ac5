use Rattle.std.proofs.Common.{◌≡◌, ◌++◌, string_bytes}
use Rattle.frames.specs.PictureRows.{each}
use Rattle.drawn_jobs.specs.Marks.{mark_alone}
use Rattle.ceiling_kernel.specs.Releases.{release_at}
use Rattle.drawn_jobs.proofs.marks.put_marks.Given as goal

abbrev pub invariant-loop-i : goal.invariant-loop-i
invariant-loop-i l = string_bytes l.text ≡ string_bytes l.initial.text ++ each l.i
    (λ i. mark_alone l.fn.chart.frame l.fn.chart.rows.now l.fn.chart.shown.now l.fn.chart.jobs.now
    l.fn.mark i (release_at l.fn.chart.releases.now i))
