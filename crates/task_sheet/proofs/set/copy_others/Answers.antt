use Rattle.std.proofs.Common.{Bool, true, false, ◌∙◌, sym}
use Rattle.std.proofs.lemmas.List.{append-nil}
use Rattle.task_sheet.proofs.SetLaws.{others_next}
use Rattle.task_sheet.proofs.set.copy_others.Goals as goal
use Rattle.task_sheet.proofs.set.copy_others.Goals.{then-ne+in_ok-copy+in_ok-push, else-ne}

pub loop-sheet-preserved : goal.loop-sheet-preserved
loop-sheet-preserved c =
    let next = λ (b : Bool). others_next c.args.sheets.now c.loop-sheet.sheet-index
    c.sheet-item.result c.args.name b c.loop-sheet-test.true c.sheet-item.is in
    elim c.if-ne.branch [
      | then-ne+in_ok-copy+in_ok-push w ↦
          rw (w.others-is, w.in_ok-push.ensures.items, c.loop-sheet.invariant, w.in_ok-copy.ensures)
          (sym (next true (rw c.name.ensures.same at w.if-ne.ensures)))
      | else-ne w ↦ rw w.others-is (c.loop-sheet.invariant ∙ sym
          (next false (rw c.name.ensures.same at w.if-ne.ensures) ∙ append-nil _))
    ]
