use Rattle.std.proofs.Common.{◌≡◌, ◌++◌, string_bytes}
use Rattle.frames.specs.PictureRows.{each}
use Rattle.drawn_jobs.specs.Changes.{change_at}
use Rattle.drawn_jobs.proofs.changes.put_changes.Given as goal

abbrev pub invariant-loop-i : goal.invariant-loop-i
invariant-loop-i l = string_bytes l.text ≡ string_bytes l.fn.text ++ each l.i
    (change_at l.fn.chart.frame l.fn.end l.fn.chart.rows.now l.fn.chart.shown.now l.fn.old l.fn.chart.jobs.now)
