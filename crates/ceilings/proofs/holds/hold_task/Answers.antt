use Rattle.std.proofs.Common.{cond}
use Rattle.std.proofs.lemmas.List.{take_all}
use Rattle.task_sheet.proofs.Common.{indexes_of, reaches}
use Rattle.ceilings.proofs.HoldLaws.{greatest-next}
use Rattle.ceilings.proofs.holds.hold_task.Goals as goal

pub loop-section-preserved : goal.loop-section-preserved
loop-section-preserved c = λ U table members.
    greatest-next (λ s. cond (reaches U (indexes_of members) s) s.len 0)
    c.sections-section-items.result.now c.loop-section.section-index c.section-item.result _ _
    c.loop-section-test.true c.section-item.is (c.loop-section.invariant U table members)
    (c.in_ok-hold_section.ensures U table members)

pub returns : goal.returns
returns c = λ U table members.
    rw (
      take_all c.loop-section.section-index c.sections-section-items.result.now
          c.loop-section-test.false,
      c.sections-section-items.ensures,
    )
    at (c.loop-section.invariant U table members)
