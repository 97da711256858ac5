use Rattle.task_sheet.proofs.SheetLaws.{copied}
use Rattle.task_sheet.proofs.set.copy_sheets.Goals as goal

pub loop-sheet-preserved : goal.loop-sheet-preserved
loop-sheet-preserved c =
    copied c.args.sheets.now c.loop-sheet.sheet-index c.sheet-item.result c.in_ok-copy.field-0
    c.loop-sheet-test.true c.loop-sheet.invariant c.sheet-item.is c.in_ok-copy.ensures
    c.in_ok-push.ensures.items
