use Rattle.std.proofs.Common.{◌≡◌, ◌+◌, length, sym, ◌∙◌, ap, subst, arith, Some}
use Rattle.task_sheet.specs.Indexes.{indexes_of}
use Rattle.task_sheet.proofs.MembersIndexes.{member_of-len}
use Rattle.assignment.specs.Outcomes.{reason_of}
use Rattle.assignment.specs.Levels.{IsRightAt}
use Rattle.assignment.proofs.GatherLaws.{IsGathering, IsGathering-skip, IsGathering-fail}
use Rattle.assignment.proofs.GatherLaws.{IsGathering-all}
use Rattle.assignment.proofs.level.gather.Goals as goal
use Rattle.assignment.proofs.level.gather.Goals.{then-has+in-Fail, else-has}

pub loop-task-preserved : goal.loop-task-preserved
loop-task-preserved c =
    let U = c.args.set.now in
    let L = indexes_of c.args.left in
    let n = c.loop-task.task in
    let given = c.args.answers.items in
    let so = c.loop-task.invariant.gathering in
    elim c.if-has.branch [
      | then-has+in-Fail w ↦
          let known = w.take_answer.ensures.value ∙ so.rest n (omega arith) in
          let right = subst (λ o. IsRightAt U L n o) (sym known ∙ ap Some w.in-Fail.is)
          (c.requires.right.right n) in
          record {
            gathering = IsGathering-fail U L given c.loop-task.answers.items c.if-has.answers.items
                c.loop-task.fails.items c.if-has.fails.items n (reason_of w.in-Fail.reason)
                c.sheets-task-end.ensures.kept so (sym c.has.ensures ∙ w.if-has.true)
                (rw w.answers-is w.take_answer.ensures.taken)
                (rw w.fails-is w.push_reserved.ensures.items) right;
            few = rw w.fails-is (omega arith);
            room = rw w.fails-is (omega arith);
          }
      | else-has w ↦ record {
        gathering = subst (λ v. IsGathering U L given v.items c.if-has.fails.items (n + 1))
            (sym w.answers-is)
            (subst (λ v. IsGathering U L given c.loop-task.answers.items v.items (n + 1))
            (sym w.fails-is) (IsGathering-skip U L given c.loop-task.answers.items
            c.loop-task.fails.items n so (sym c.has.ensures ∙ w.if-has.false)));
        few = rw w.fails-is (omega arith);
        room = rw w.fails-is c.loop-task.invariant.room;
      }
    ]

pub returns : goal.returns
returns c =
    let U = c.args.set.now in
    let L = indexes_of c.args.left in
    let some = member_of-len c.args.left (length U) c.requires.part c.requires.some in
    let end : c.loop-task.task ≡ length U =
    omega (arith, ap length c.sheets-task-end.ensures.same) in
    let so = subst (λ n. IsGathering U L c.args.answers.items c.loop-task.answers.items
    c.loop-task.fails.items n) end c.loop-task.invariant.gathering in
    IsGathering-all U L c.args.answers.items c.loop-task.answers.items _ so c.requires.part
    (some.0, some.2)
