use Rattle.std.proofs.Common.{◌+◌, ◌∙◌, ap, sym, subst}
use Rattle.std.specs.FinSet.{contains}
use Rattle.assignment.specs.Levels.{LevelState}
use Rattle.assignment.proofs.AskLaws.{IsAsking, IsAsking-skip, IsAsking-ask}
use Rattle.assignment.proofs.assigning.decide.Goals as goal
use Rattle.assignment.proofs.assigning.decide.Goals.{then-has+in_ok-ask+else-decided, else-has}

pub loop-task-preserved : goal.loop-task-preserved
loop-task-preserved c =
    let U = c.args.level.set in
    let left = c.args.level.left in
    let n = c.loop-task.task in
    elim c.if-has.branch [
      | then-has+in_ok-ask+else-decided w ↦ IsAsking-ask U left c.loop-task.level c.if-has.level n
          c.loop-task.invariant (w.level-is ∙ w.in_ok-ask.ensures)
      | else-has w ↦ subst (λ (l : LevelState). IsAsking U left l (n + 1)) (sym w.level-is)
          (IsAsking-skip U left c.loop-task.level n c.loop-task.invariant (ap (λ m. contains m n)
          (sym c.left-left.ensures.same) ∙ sym c.has.ensures ∙ w.if-has.false))
    ]

pub returns-then-decided-clause-decided : goal.returns-then-decided-clause-decided
returns-then-decided-clause-decided c = c.decided.ensures.0 c.if-decided.true
