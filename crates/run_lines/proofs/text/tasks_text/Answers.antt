use Rattle.std.proofs.Common.{◌<◌, length, arith, subst}
use Rattle.std.proofs.lemmas.List.{get_or-map, length-map}
use Rattle.ceiling_kernel.proofs.OrderLaws.{order_iff}
use Rattle.run_lines.specs.TaskBounds.{tasks_of_bounds}
use Rattle.run_lines.specs.declared.bounds.TaskBound.{TaskBound}
use Rattle.run_lines.proofs.text.tasks_text.Goals as goal

-- each task of an order is one of the set
pub push_task-requires : goal.push_task-requires
push_task-requires c =
    let bounds = c.args.bounds.now in
    let k = c.loop-bound.bound-index in
    let lt : k < length bounds = omega (arith, c.loop-bound-test.true) in
    let same = length-map bounds (λ (b : TaskBound). b.task) in
    let within : k < length (tasks_of_bounds bounds) = omega (arith, lt, same) in
    let all = (order_iff (length c.args.set.now) (tasks_of_bounds bounds)).1 c.requires in
    subst (λ task. task < length c.args.set.now)
    (get_or-map (λ (b : TaskBound). b.task) bounds k _ 0 lt) (all.0 k 0 within)
