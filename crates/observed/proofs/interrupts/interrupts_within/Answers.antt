use Rattle.std.proofs.Common.{◌∙◌, arith}
use Rattle.observed.proofs.InterruptSums.{first-whole}
use Rattle.observed.proofs.interrupts.interrupts_within.Goals as goal

pub returns-clause-is : goal.returns-clause-is
returns-clause-is c =
    c.loop-sheet.invariant.total
    ∙ first-whole c.args.set.now c.sheets-sheet-items.result.now c.args.time
    c.loop-sheet.sheet-index c.sheets-sheet-items.ensures.same
    (omega (arith, c.loop-sheet-test.false))
