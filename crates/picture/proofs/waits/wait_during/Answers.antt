use Rattle.std.proofs.Common.{refl}
use Rattle.picture.proofs.waits.wait_during.Goals as goal

pub returns-in_err-piece-clause-wait : goal.returns-in_err-piece-clause-wait
returns-in_err-piece-clause-wait c =
    rw (← c.wait_in.ensures, c.in_err-piece.was) c.from_residual.ensures

pub returns-in_err-job-clause-wait : goal.returns-in_err-job-clause-wait
returns-in_err-job-clause-wait c = rw (
  ← c.wait_in.ensures,
  c.in_ok-piece.was,
  ← c.job_of.ensures,
  c.in_err-job.was,
) c.from_residual-in_err-job.ensures

pub returns-in_err-row-clause-wait : goal.returns-in_err-row-clause-wait
returns-in_err-row-clause-wait c = rw (
  ← c.wait_in.ensures,
  c.in_ok-piece.was,
  ← c.job_of.ensures,
  c.in_ok-job.was,
  ← c.find_row.ensures.place,
  c.in_err-row.was,
) c.from_residual-in_err-row.ensures

pub returns-clause-wait : goal.returns-clause-wait
returns-clause-wait c = rw (
  ← c.wait_in.ensures,
  c.in_ok-piece.was,
  ← c.job_of.ensures,
  c.in_ok-job.was,
  ← c.find_row.ensures.place,
  c.in_ok-row.was,
) refl
