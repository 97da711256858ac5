use Rattle.std.proofs.Common.{◌≡◌, refl, subst, length, arith}
use Rattle.task_sheet.specs.Indexes.{indexes_of}
use Rattle.explain.specs.Conflict.{IsLeftOf}
use Rattle.explain.proofs.ConflictLaws.{IsThin-left, left-least, left-more}
use Rattle.explain.proofs.conflict.least_conflict.Goals as goal

pub loop-task-init : goal.loop-task-init
loop-task-init c = refl

pub gone_through-conflict-requires-clause-part : goal.gone_through-conflict-requires-clause-part
gone_through-conflict-requires-clause-part c =
    (IsThin-left c.args.set.now (indexes_of c.args.obstruction) c.loop-task.task (indexes_of
    c.loop-task.conflict) c.requires c.loop-task.invariant).obstruction.within

pub loop-task-preserved : goal.loop-task-preserved
loop-task-preserved c =
    left-more c.args.set.now (indexes_of c.args.obstruction) (indexes_of c.loop-task.conflict)
    (indexes_of c.gone_through-conflict.result) c.loop-task.task
    c.loop-task.invariant c.gone_through-conflict.ensures

pub returns : goal.returns
returns c =
    let U = c.args.set.now in
    let S = indexes_of c.args.obstruction in
    let C = indexes_of c.loop-task.conflict in
    let all : c.loop-task.task ≡ length U = omega (arith, c.len-task-end.ensures.count) in
    let way = subst (λ n. IsLeftOf U S n C) all c.loop-task.invariant in
    let least = left-least U S C c.requires way in
    record { least = least.0; part = least.1; way = way }
