use Rattle.std.proofs.Common.{◌∙◌, ap, sym}
use Rattle.task_sheet.specs.Indexes.{indexes_of}
use Rattle.explain.proofs.NeedLaws.{AreNeedsOf-in, AreNeedsOf-out}
use Rattle.explain.proofs.needs.needs_of.Goals as goal
use Rattle.explain.proofs.needs.needs_of.Goals.{then-has+in_ok-need_of+in_ok-push, else-has}

pub loop-task-preserved : goal.loop-task-preserved
loop-task-preserved c =
    let U = c.args.set.now in
    let C = indexes_of c.args.conflict in
    let n = c.loop-task.task in
    elim c.if-has.branch [
      | then-has+in_ok-need_of+in_ok-push w ↦
          AreNeedsOf-in U C n c.loop-task.needs.items c.if-has.needs.items w.in_ok-need_of.field-0
          (sym c.has.ensures ∙ w.if-has.true)
          (ap (λ v. v.items) w.needs-is ∙ w.in_ok-push.ensures.items) c.loop-task.invariant
          w.in_ok-need_of.ensures
      | else-has w ↦
          AreNeedsOf-out U C n c.loop-task.needs.items c.if-has.needs.items (sym c.has.ensures
          ∙ w.if-has.false) (ap (λ v. v.items) w.needs-is) c.loop-task.invariant
    ]
