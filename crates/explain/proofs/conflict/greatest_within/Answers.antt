use Rattle.std.proofs.Common.{◌∙◌, ap}
use Rattle.std.proofs.lemmas.Bool.{both_ways}
use Rattle.task_sheet.specs.Indexes.{Indexes, indexes_of}
use Rattle.task_sheet.proofs.TaskLaws.{AllTasks-from_set}
use Rattle.task_sheet.proofs.MembersIndexes.{indexes_of-empty, len-remove_member}
use Rattle.explain.proofs.ConflictLaws.{IsPeeled-start, IsPeeled-remove, IsPeeled-none}
use Rattle.explain.proofs.ConflictLaws.{IsPeeled-some}
use Rattle.explain.proofs.conflict.greatest_within.Goals as goal

pub loop-task-init : goal.loop-task-init
loop-task-init c = IsPeeled-start c.args.set.now (indexes_of c.args.tasks)

pub standing-requires : goal.standing-requires
standing-requires c = λ k h. c.requires k (c.loop-task.invariant.part k h)

pub loop-task-smaller : goal.loop-task-smaller
loop-task-smaller c = rw c.without-left.ensures
    (len-remove_member c.loop-task.left c.in-Some.task c.in-Some.ensures.member)

pub loop-task-preserved : goal.loop-task-preserved
loop-task-preserved c =
    IsPeeled-remove c.args.set.now (indexes_of c.args.tasks) c.loop-task.left c.without-left.result
    c.in-Some.task (AllTasks-from_set c.args.set.now c.sheets-sheets.ensures.kept)
    c.loop-task.invariant c.without-left.ensures c.in-Some.ensures.stands

pub returns-then-is_empty-clause-none : goal.returns-then-is_empty-clause-none
returns-then-is_empty-clause-none c =
    let none = ap indexes_of (c.is_empty.ensures.0 c.if-is_empty.true) ∙ indexes_of-empty in
    IsPeeled-none c.args.set.now (indexes_of c.args.tasks) (indexes_of c.loop-task.left)
    c.loop-task.invariant (λ k. ap (λ (X : Indexes). X k) none)

pub returns-else-is_empty-clause-some : goal.returns-else-is_empty-clause-some
returns-else-is_empty-clause-some c =
    IsPeeled-some c.args.set.now (indexes_of c.args.tasks) c.loop-task.left c.requires
    c.loop-task.invariant
    (λ none. both_ways c.is_empty.result c.if-is_empty.false (c.is_empty.ensures.1 none))
    c.in_default.ensures.none
