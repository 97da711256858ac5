use Rattle.std.proofs.Common.{ap, sym, ◌∙◌, ℕ, Bool}
use Rattle.task_sheet.specs.Indexes.{below, indexes_of}
use Rattle.task_sheet.proofs.MembersIndexes.{indexes_of-all_below}
use Rattle.assignment.proofs.AskLaws.{remove-part}
use Rattle.core_rows.proofs.findings.left_of.Goals as goal

pub loop-task-init : goal.loop-task-init
loop-task-init g c =
    let all = ap indexes_of c.all-left.ensures ∙ indexes_of-all_below c.len.result
    ∙ ap below c.len.ensures.count in
    λ k h. ap (λ (X : ℕ → Bool). X k) (sym all) ∙ h

pub loop-task-preserved : goal.loop-task-preserved
loop-task-preserved g c =
    rw c.without-left.ensures (remove-part c.args.set.now c.loop-task.left _ c.loop-task.invariant)
