use Rattle.std.proofs.Common.{arith}
use Rattle.std.proofs.lemmas.Result.{err_from_is_err_and}
use Rattle.release_list.proofs.RandomLaws.{taken_first, taken_next, taken_all, taken_refused}
use Rattle.release_list.proofs.random_list.push_jobs.Goals as goal

pub loop-time-init : goal.loop-time-init
loop-time-init c =
    taken_first c.first-time.ensures.first c.first-time.ensures.word c.requires.few

pub returns-in_err-push_if_ready : goal.returns-in_err-push_if_ready
returns-in_err-push_if_ready c =
    let p = err_from_is_err_and c.from_residual.result c.from_residual.ensures.1 in
    rw (p.1, p.2) (taken_refused c.loop-time.invariant (omega (arith, c.requires.valid.period_from))
    c.in_err-push_if_ready.field-0.0 c.loop-time-test.true c.release-release.ensures.release
    c.in_err-push_if_ready.ensures)

pub loop-time-preserved : goal.loop-time-preserved
loop-time-preserved c =
    taken_next c.loop-time.invariant (omega (arith, c.requires.valid.period_from))
    c.loop-time-test.true c.release-release.ensures.release c.in_ok-push_if_ready.ensures.0
    c.in_ok-push_if_ready.ensures.1 c.release-release.ensures.word c.gap-time.ensures.gap
    c.gap-time.ensures.word

pub returns : goal.returns
returns c = (
  taken_all c.loop-time.invariant (omega (arith, c.requires.valid.period_from))
      c.loop-time-test.false,
  c.loop-time.invariant.few,
)
