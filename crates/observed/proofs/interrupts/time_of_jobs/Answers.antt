use Rattle.std.proofs.Common.{◌*◌, ◌+◌, ap, arith}
use Rattle.observed.proofs.InterruptSums.{jobs-short}
use Rattle.observed.proofs.interrupts.time_of_jobs.Goals as goal

pub returns-clause-fits : goal.returns-clause-fits
returns-clause-fits c = omega (
  arith,
  ap (λ n. n * c.from-4.result) c.div_ceil-jobs.ensures,
  jobs-short c.from-3.result c.from-4.result (c.from.result + c.from-2.result)
      (omega (arith, c.requires.period, c.from-3.ensures))
      (omega (arith, c.requires.cost, c.from-3.ensures, c.from-4.ensures)),
  c.requires.short,
  c.ranges.time.fits,
  c.ranges.jitter.fits,
)
