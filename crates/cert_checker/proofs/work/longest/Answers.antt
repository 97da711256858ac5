use Rattle.std.proofs.Common.{◌≡◌, cond, max, ap, arith}
use Rattle.task_sheet.proofs.Common.{indexes_of, reaches}
use Rattle.task_sheet.proofs.Below.{ord_max-is, greatest_step}
use Rattle.cert_checker.proofs.work.longest.Goals as goal
use Rattle.cert_checker.proofs.work.longest.Goals.{then-reaches, else-reaches}

pub loop-section-preserved : goal.loop-section-preserved
loop-section-preserved c =
    let next : c.if-reaches.longest ≡ cond c.reaches.result
    (max c.loop-section.longest c.section-item.result.len) c.loop-section.longest =
    elim c.if-reaches.branch [
      | then-reaches w ↦ rw (w.if-reaches.true) (omega (
        arith,
        w.longest-is,
        w.max-longest.ensures,
        ord_max-is,
        ap (λ s. s.len) c.section.view_is,
      ))
      | else-reaches w ↦ rw (w.if-reaches.false) w.longest-is
    ] in
    greatest_step (reaches c.args.set.now (indexes_of c.args.members)) (λ s. s.len)
    c.sections-section-items.result.now c.loop-section.section-index c.section-item.result
    c.reaches.result c.loop-section.longest c.if-reaches.longest
    c.loop-section-test.true c.section-item.is c.reaches.ensures c.loop-section.invariant next
