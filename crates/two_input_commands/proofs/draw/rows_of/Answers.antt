use Rattle.std.proofs.Common.{◌-◌, ◌<◌, length, subst, arith}
use Rattle.std.proofs.lemmas.List.{get_or-map, length-map}
use Rattle.run_lines.specs.TaskBounds.{tasks_of_bounds}
use Rattle.run_lines.specs.declared.bounds.TaskBound.{TaskBound}
use Rattle.two_input_commands.proofs.draw.rows_of.Goals as goal

pub row_of-requires : goal.row_of-requires
row_of-requires c =
    let bounds = c.args.bounds.now in
    let k = length bounds - 1 - c.loop-i.i in
    let same = length-map bounds (λ (p : TaskBound). p.task) in
    let lt : k < length bounds = omega (arith, c.loop-i-test.true) in
    let within : k < length (tasks_of_bounds bounds) = omega (arith, lt, same) in
    subst (λ task. task < length c.args.set.now)
    (get_or-map (λ (p : TaskBound). p.task) bounds k _ 0 lt) (c.requires k 0 within)
