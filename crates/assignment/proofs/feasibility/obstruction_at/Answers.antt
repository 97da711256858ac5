use Rattle.std.proofs.Common.{◌∙◌, List, ap, length, subst, sym}
use Rattle.std.proofs.lemmas.Bool.{both_ways}
use Rattle.task_sheet.specs.Sheet.{Task}
use Rattle.task_sheet.proofs.Common.{Indexes, indexes_of}
use Rattle.task_sheet.proofs.MembersIndexes.{indexes_of-empty, indexes_of-remove, len-remove_member}
use Rattle.task_sheet.proofs.TaskLaws.{AllTasks-from_set}
use Rattle.response_time.specs.Slowed.{PassesAt}
use Rattle.response_time.proofs.SlowedLaws.{Slowed, slowed-eased}
use Rattle.latest_first.proofs.OneOrder.{AllPrompt-valid, stands-latest}
use Rattle.assignment.proofs.FeasibilityLaws.{IsLeading-start, IsLeading-remove, IsLeading-empty, IsLeading-stuck}
use Rattle.assignment.proofs.feasibility.obstruction_at.Goals as goal

pub loop-task-init : goal.loop-task-init
loop-task-init c = IsLeading-start _ c.args.set.now c.all-left.result _ c.all-left.ensures
    (ap (λ (U : List Task). length U) c.sheets.ensures.same)

-- the task speaks for all that are left
pub returns-then-not-passes_at-clause-some : goal.returns-then-not-passes_at-clause-some
returns-then-not-passes_at-clause-some c =
    let U = c.args.set.now in
    let left = c.loop-task.left in
    let i = c.in-Some.task in
    let is = c.in-Some.ensures.some in
    let others = ap indexes_of c.without-above.ensures ∙ indexes_of-remove left i in
    IsLeading-stuck (PassesAt c.args.factor U) U left c.loop-task.invariant
    (λ none. both_ways _ (ap (λ (X : Indexes). X i) (ap indexes_of none ∙ indexes_of-empty)) is.free.0)
    (λ j here stands. both_ways _ c.if-not-passes_at.true (c.passes_at.ensures.1
    (subst (λ (X : Indexes). PassesAt c.args.factor U i X) (sym others)
    (stands-latest (Slowed c.args.factor) (slowed-eased c.args.factor) U
    (AllPrompt-valid U c.sheets.ensures.kept) (indexes_of left) i j c.loop-task.invariant.part is here stands).0)))

pub loop-task-smaller : goal.loop-task-smaller
loop-task-smaller c = rw c.without-above.ensures
    (len-remove_member c.loop-task.left c.in-Some.task c.in-Some.ensures.some.free.0)

pub loop-task-preserved : goal.loop-task-preserved
loop-task-preserved c =
    let U = c.args.set.now in
    let i = c.in-Some.task in
    let is = c.in-Some.ensures.some in
    let others = ap indexes_of c.without-above.ensures ∙ indexes_of-remove c.loop-task.left i in
    IsLeading-remove (Slowed c.args.factor) (slowed-eased c.args.factor) U (AllTasks-from_set U c.sheets.ensures.kept)
    c.loop-task.left c.without-above.result i c.loop-task.invariant c.without-above.ensures is.free.0
    (subst (λ (X : Indexes). PassesAt c.args.factor U i X) others (c.passes_at.ensures.0 c.if-not-passes_at.false), is.free.1)

pub returns-then-is_empty-clause-none : goal.returns-then-is_empty-clause-none
returns-then-is_empty-clause-none c = IsLeading-empty _ c.args.set.now c.loop-task.left c.loop-task.invariant
    (c.is_empty.ensures.0 c.if-is_empty.true)

pub returns-else-is_empty-clause-some : goal.returns-else-is_empty-clause-some
returns-else-is_empty-clause-some c = IsLeading-stuck (PassesAt c.args.factor c.args.set.now) c.args.set.now
    c.loop-task.left c.loop-task.invariant
    (λ none. both_ways _ c.if-is_empty.false (c.is_empty.ensures.1 none))
    (λ j here stands. c.in_default.ensures.none j (here, stands.1))
