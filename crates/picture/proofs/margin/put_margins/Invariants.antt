use Rattle.std.proofs.Common.{◌≡◌, ◌++◌, string_bytes}
use Rattle.frames.specs.PictureRows.{at_spot, each, spot_in}
use Rattle.picture.specs.Margin.{margin_text}
use Rattle.picture.proofs.margin.put_margins.Given as goal

abbrev pub invariant-loop-k : goal.invariant-loop-k
invariant-loop-k l = string_bytes l.text ≡ string_bytes l.fn.text ++ each l.k
    (λ k. at_spot l.fn.chart.rows.now (spot_in l.fn.chart.shown.now k)
    (margin_text l.fn.chart.frame l.fn.chart.jobs.now))
