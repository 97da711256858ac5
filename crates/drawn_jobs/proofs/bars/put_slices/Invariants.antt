use Rattle.std.proofs.Common.{◌≡◌, ◌++◌, string_bytes}
use Rattle.frames.specs.PictureRows.{each}
use Rattle.drawn_jobs.specs.Bars.{slice_in}
use Rattle.drawn_jobs.proofs.Counts.{AreCounts}
use Rattle.drawn_jobs.proofs.bars.put_slices.Given as goal

abbrev pub invariant-loop-slice : goal.invariant-loop-slice
invariant-loop-slice l = record {
  put : string_bytes l.text ≡ string_bytes l.fn.text ++ each l.slice-index
      (slice_in l.fn.chart.frame l.fn.chart.locks.now l.fn.chart.rows.now
      l.fn.chart.shown.now l.fn.chart.jobs.now l.fn.chart.slices.now);
  counts : AreCounts l.executed l.fn.chart.jobs.now l.fn.chart.slices.now l.slice-index;
}
