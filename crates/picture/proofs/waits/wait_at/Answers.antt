use Rattle.std.proofs.Common.{◌≤◌, ◌<◌, length, arith, refl}
use Rattle.std.proofs.lemmas.Option.{slice_get-get_or, slice_get_past}
use Rattle.frames.specs.Slices.{no_slice}
use Rattle.picture.proofs.waits.wait_at.Goals as goal

pub returns-then-n-chart : goal.returns-then-n-chart
returns-then-n-chart c =
    let slices = c.args.chart.now.slices.now in
    let past : length slices ≤ c.args.n = omega arith in
    record {
      wait = rw (slice_get_past slices c.args.n past) refl;
      within = tt;
    }

pub returns : goal.returns
returns c =
    let slices = c.args.chart.now.slices.now in
    let lt : c.args.n < length slices = omega arith in
    record {
      wait = rw (slice_get-get_or slices c.args.n no_slice lt, ← c.slice_at.ensures)
          c.wait_during.ensures.wait;
      within = c.wait_during.ensures.within;
    }
