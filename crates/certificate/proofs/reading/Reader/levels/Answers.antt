use Rattle.std.proofs.lemmas.Result.{err_from_is_err_and}
use Rattle.certificate.proofs.Loops.{IsRead-next, IsRead-stops, IsRead-all}
use Rattle.certificate.proofs.reading.Reader.levels.Goals as goal

pub returns-in_err-level : goal.returns-in_err-level
returns-in_err-level c =
    let p = err_from_is_err_and c.from_residual.result c.from_residual.ensures.1 in
    rw (p.1, p.2) (IsRead-stops c.loop-i.invariant _ c.loop-i-test.true c.in_err-level.ensures)

pub loop-i-preserved : goal.loop-i-preserved
loop-i-preserved c = rw c.in_ok-push.ensures.items
    (IsRead-next c.loop-i.invariant _ _ c.loop-i-test.true c.in_ok-level.ensures)

pub returns : goal.returns
returns c = IsRead-all c.loop-i.invariant c.loop-i-test.false
