use Rattle.std.proofs.Common.{◌∙◌, sym}
use Rattle.doubts.proofs.FirstLaws.{lone_found}
use Rattle.doubts.proofs.doubt.first_lone_in.Goals as goal

pub returns-then-is_lone : goal.returns-then-is_lone
returns-then-is_lone c =
    lone_found c.args.sheets.now c.args.task c.lock-item.result c.args.locks.now
    c.loop-lock.lock-index c.loop-lock-test.true c.lock-item.is
    (sym c.is_lone.ensures ∙ c.if-is_lone.true) c.loop-lock.invariant
