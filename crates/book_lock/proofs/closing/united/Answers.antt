use Rattle.std.proofs.Common.{ap, arith}
use Rattle.book_lock.specs.TeamPass.{parts_of, receipt_count}
use Rattle.book_lock.proofs.closing.united.Goals as goal

pub loop-pass-preserved : goal.loop-pass-preserved
loop-pass-preserved g c =
    let inv = c.loop-pass.invariant in
    let parts = ap parts_of c.in-Some.ensures.steps.0 in
    let count = ap receipt_count c.in-Some.ensures.steps.0 in
    (omega (arith, inv.0, parts), omega (arith, inv.1, count))
