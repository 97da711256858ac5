use Rattle.std.proofs.Common.{◌≡◌, ◌<◌, length, sym, ◌∙◌, ap, subst, arith, Some, IsFalse}
use Rattle.std.specs.FinSet.{contains}
use Rattle.task_sheet.specs.Indexes.{indexes_of}
use Rattle.assignment.specs.Questions.{QuestionData}
use Rattle.assignment.specs.Levels.{LevelState, IsAsked, IsRightAt}
use Rattle.assignment.proofs.LevelLaws.{found_again, IsRightAt-asked, AreRight-set, AreMissing-set}
use Rattle.assignment.proofs.level.Level.accept.Goals as goal

pub invariant_of-self-then-has-4 : goal.invariant_of-self-then-has-4
invariant_of-self-then-has-4 c =
    let q = c.args.finding.question in
    let a = c.self.inside in
    let inv = c.self.invariant in
    let l : LevelState = record { set = a.set.value; left = a.left; missing = a.missing } in
    let asked = subst (λ x. IsAsked x q) (sym c.self.view_is) c.requires.asked in
    let task : c.task-task.result ≡ q.task = c.task-task.ensures.same
    ∙ ap (λ (x : QuestionData). x.task) c.question.ensures in
    let within : c.task-task.result < length a.set.value =
    omega (
      arith,
      task,
      c.task-task.ensures.kept.task,
      ap (λ (x : QuestionData). length x.set)
          c.question.ensures,
      ap length asked.same,
    ) in
    let right = subst (λ n. IsRightAt l.set (indexes_of l.left) n (Some c.into_answer.result))
    (sym task) (IsRightAt-asked l q c.into_answer.result asked c.into_answer.ensures.right) in
    record {
      valid = inv.valid;
      part = inv.part;
      some = inv.some;
      right = AreRight-set a.set.value (indexes_of a.left) a.answers.items c.task-task.result
          (Some c.into_answer.result) inv.right within right;
      missing = rw c.without-self-inside.ensures (AreMissing-set a.left a.missing a.answers.items
          c.task-task.result c.into_answer.result (omega (arith, inv.right.full)) inv.missing);
      empty = inv.empty;
      room = inv.room;
    }

pub returns-else-has : goal.returns-else-has
returns-else-has c =
    let q = c.args.finding.question in
    let l = c.args.self.now in
    let task : c.task-task.result ≡ q.task = c.task-task.ensures.same
    ∙ ap (λ (x : QuestionData). x.task) c.question.ensures in
    let found : IsFalse (contains l.missing q.task) =
    subst (λ (x : LevelState). IsFalse (contains x.missing q.task)) c.self.view_is (subst (λ j.
    IsFalse (contains c.self.inside.missing j)) task (sym c.has.ensures ∙ c.if-has.false)) in
    sym (found_again l q.task found)
