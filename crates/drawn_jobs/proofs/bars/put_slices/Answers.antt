use Rattle.std.proofs.Common.{◌∙◌, ◌+◌, ◌++◌, List, ℕ, ap, string_bytes, subst, sym}
use Rattle.drawn_jobs.specs.Bars.{slice_in}
use Rattle.frames.proofs.Eachs.{each_init, each_next}
use Rattle.drawn_jobs.proofs.Counts.{AreCounts, none_counted, one_counted, counted_text}
use Rattle.drawn_jobs.proofs.bars.put_slices.Goals as goal

pub loop-slice-init : goal.loop-slice-init
loop-slice-init c =
    let chart = c.args.chart.now in
    record {
      put = each_init (string_bytes c.args.text.now) (slice_in chart.frame chart.locks.now
          chart.rows.now chart.shown.now chart.jobs.now chart.slices.now);
      counts = none_counted c.args.executed.now chart.jobs.now chart.slices.now c.requires;
    }

pub loop-slice-preserved : goal.loop-slice-preserved
loop-slice-preserved c =
    let chart = c.args.chart.now in
    let before : List ℕ = string_bytes c.loop-slice.text in
    let n : ℕ = c.loop-slice.slice-index in
    let counts = c.loop-slice.invariant.counts in
    record {
      put = each_next (string_bytes c.args.text.now) before (string_bytes c.put_slice.new.text)
          (slice_in chart.frame chart.locks.now chart.rows.now chart.shown.now chart.jobs.now
          chart.slices.now) n c.loop-slice.invariant.put (c.in_ok-put_slice.ensures.put
          ∙ ap (λ (l : List ℕ). before ++ l) (counted_text chart.frame chart.locks.now
          chart.rows.now chart.shown.now chart.jobs.now chart.slices.now c.loop-slice.executed n
          counts));
      counts = subst (λ (ticks : List ℕ). AreCounts ticks chart.jobs.now chart.slices.now (n + 1))
          (sym c.put_slice.ensures.counted)
          (one_counted c.loop-slice.executed chart.jobs.now chart.slices.now n counts);
    }
