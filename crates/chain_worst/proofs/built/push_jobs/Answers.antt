use Rattle.std.proofs.Common.{◌+◌, ◌∙◌, ap, arith}
use Rattle.std.proofs.lemmas.Result.{err_from_is_err_and}
use Rattle.chain_worst.specs.Arrivals.{next_of}
use Rattle.chain_worst.proofs.ArrivalLaws.{next_from}
use Rattle.chain_worst.proofs.JobLaws.{taken_first, taken_next, taken_all, taken_refused}
use Rattle.chain_worst.proofs.built.push_jobs.Goals as goal

pub loop-time-init : goal.loop-time-init
loop-time-init c = taken_first c.next_of-time.ensures c.requires.few

pub returns-in_err-push : goal.returns-in_err-push
returns-in_err-push c =
    let p = err_from_is_err_and c.from_residual.result c.from_residual.ensures.1 in
    rw (p.1, p.2) (taken_refused c.loop-time.invariant (omega (arith, c.requires.valid.period_from))
    c.in_err-push.field-0.0 c.loop-time-test.true
    (rw c.release_at.ensures at c.in_err-push.ensures))

pub loop-time-smaller : goal.loop-time-smaller
loop-time-smaller c =
    omega (
      arith,
      c.loop-time-test.true,
      c.requires.valid.period_from,
      c.period.ensures,
      c.next_of-time-in-loop-time.ensures,
      next_from c.args.sheet.now c.args.rank c.args.until c.args.aims.now (c.loop-time.time + c.period.result),
    )

pub loop-time-preserved : goal.loop-time-preserved
loop-time-preserved c =
    taken_next c.loop-time.invariant (omega (arith, c.requires.valid.period_from))
    c.loop-time-test.true (rw c.release_at.ensures at c.in_ok-push.ensures.0) c.in_ok-push.ensures.1
    (c.next_of-time-in-loop-time.ensures
    ∙ ap (λ p. next_of c.args.sheet.now c.args.rank c.args.until c.args.aims.now (c.loop-time.time + p)) c.period.ensures)

pub returns : goal.returns
returns c = (
  taken_all c.loop-time.invariant (omega (arith, c.requires.valid.period_from))
      c.loop-time-test.false,
  c.loop-time.invariant.few,
)
