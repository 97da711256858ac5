use Rattle.std.proofs.lemmas.Result.{err_from_is_err_and}
use Rattle.certificate.proofs.Loops.{IsRead-next, IsRead-stops, IsRead-all}
use Rattle.certificate.proofs.reading.Reader.members.Goals as goal

pub returns-in_err-fail : goal.returns-in_err-fail
returns-in_err-fail c =
    let p = err_from_is_err_and c.from_residual.result c.from_residual.ensures.1 in
    rw (p.1, p.2) (IsRead-stops c.loop.invariant _ c.loop-test.true c.in_err-fail.ensures)

pub loop-preserved : goal.loop-preserved
loop-preserved c = rw c.in_ok-push.ensures.items
    (IsRead-next c.loop.invariant _ _ c.loop-test.true c.in_ok-fail.ensures)

pub returns : goal.returns
returns c = IsRead-all c.loop.invariant c.loop-test.false
