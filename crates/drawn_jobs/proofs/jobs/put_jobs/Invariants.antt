use Rattle.std.proofs.Common.{◌≡◌, ◌++◌, string_bytes}
use Rattle.frames.specs.PictureRows.{each, record_at, on_spot}
use Rattle.drawn_jobs.specs.Bands.{place_text}
use Rattle.drawn_jobs.proofs.jobs.put_jobs.Given as goal

abbrev pub invariant-loop-i : goal.invariant-loop-i
invariant-loop-i l = string_bytes l.text ≡ string_bytes l.fn.text ++ each l.i
    (λ i. on_spot l.fn.chart.rows.now l.fn.chart.shown.now (record_at l.fn.chart.jobs.now i).name
    (λ s. place_text l.fn.chart.frame l.fn.chart.jobs.now i s.k))
