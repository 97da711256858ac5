use Rattle.std.proofs.Common.{◌≡◌, ◌≤◌, length}
use Rattle.drawn_jobs.specs.Held.{held_before}
use Rattle.drawn_jobs.proofs.Counts.{AreCounts}
use Rattle.frames.specs.declared.locks.TheConstants.{LOCKS_LIMIT}
use Rattle.drawn_jobs.proofs.held.note_slices.Given as goal

abbrev pub invariant-loop-slice : goal.invariant-loop-slice
invariant-loop-slice l = record {
  noted : l.held.items ≡ held_before l.fn.chart.frame l.fn.chart.rows.now l.fn.chart.shown.now
      l.fn.chart.jobs.now l.fn.chart.slices.now l.slice-index;
  counts : AreCounts l.executed l.fn.chart.jobs.now l.fn.chart.slices.now l.slice-index;
  few : length l.held.items ≤ LOCKS_LIMIT;
}
