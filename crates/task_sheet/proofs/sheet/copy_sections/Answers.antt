use Rattle.task_sheet.proofs.SheetLaws.{copied}
use Rattle.task_sheet.proofs.sheet.copy_sections.Goals as goal

pub loop-section-preserved : goal.loop-section-preserved
loop-section-preserved c =
    copied c.args.sections.now c.loop-section.section-index c.section-item.result c.in_ok-copy.field-0
    c.loop-section-test.true c.loop-section.invariant c.section-item.is c.in_ok-copy.ensures
    c.in_ok-push.ensures.items
