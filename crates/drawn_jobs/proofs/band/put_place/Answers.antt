use Rattle.std.proofs.lemmas.Bool.{lt-ltb, le-ltb}
use Rattle.drawn_jobs.proofs.band.put_place.Goals as goal

pub returns-then-band-gt1 : goal.returns-then-band-gt1
returns-then-band-gt1 c =
    let band = c.band_in-band in
    let outcome = c.outcome_of-outcome.ensures in
    rw (
      ← c.gap_of-gap.ensures,
      ← c.joins.ensures,
      c.if-joins.false,
      ← c.stretch_of-stretch.ensures,
      ← c.job_at-first.ensures,
      ← band.ensures.count,
      ← band.ensures.latest,
      ← outcome.done,
      ← outcome.greatest,
      lt-ltb 1 band.result.count c.if-band-gt1.true,
    ) c.put_band.ensures

pub returns-else-band-gt1 : goal.returns-else-band-gt1
returns-else-band-gt1 c =
    let band = c.band_in-band in
    rw (
      ← c.gap_of-gap.ensures,
      ← c.joins.ensures,
      c.if-joins.false,
      ← c.stretch_of-stretch.ensures,
      ← c.job_at-first.ensures,
      ← band.ensures.count,
      le-ltb 1 band.result.count c.if-band-gt1.false,
    )
    c.put_job_in.ensures
