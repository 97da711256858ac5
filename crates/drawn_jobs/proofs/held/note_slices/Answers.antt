use Rattle.std.proofs.Common.{◌∙◌, ◌+◌, ℕ, List, ap, arith, length, subst, sym}
use Rattle.drawn_jobs.proofs.Counts.{AreCounts, counted_held, none_counted, none_held, one_counted}
use Rattle.drawn_jobs.proofs.held.note_slices.Goals as goal

pub loop-slice-init : goal.loop-slice-init
loop-slice-init c = record {
  noted = c.requires.none ∙ none_held c.args.chart.now.frame c.args.chart.now.rows.now
      c.args.chart.now.shown.now c.args.chart.now.jobs.now c.args.chart.now.slices.now;
  counts = none_counted c.args.executed.now c.args.chart.now.jobs.now c.args.chart.now.slices.now
      c.requires.counts;
  few = omega (arith, ap (λ (names : List (List ℕ)). length names) c.requires.none);
}

pub loop-slice-preserved : goal.loop-slice-preserved
loop-slice-preserved c =
    let f = c.args.chart.now.frame in
    let rows = c.args.chart.now.rows.now in
    let shown = c.args.chart.now.shown.now in
    let jobs = c.args.chart.now.jobs.now in
    let slices = c.args.chart.now.slices.now in
    let n = c.loop-slice.slice-index in
    record {
      noted = rw c.count_slice-before.ensures.before at c.in_ok-note_held.ensures.noted
          ∙ counted_held f rows shown jobs slices c.loop-slice.executed n c.loop-slice.held.items
          c.loop-slice.invariant.counts c.loop-slice.invariant.noted;
      counts = subst (λ (ticks : List ℕ). AreCounts ticks jobs slices (n + 1))
          (sym c.count_slice-before.ensures.counted) (one_counted c.loop-slice.executed jobs slices n
          c.loop-slice.invariant.counts);
      few = c.in_ok-note_held.ensures.few;
    }
