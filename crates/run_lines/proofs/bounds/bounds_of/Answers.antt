use Rattle.std.proofs.Common.{◌∙◌, ap, arith}
use Rattle.std.proofs.lemmas.List.{take_all}
use Rattle.run_lines.specs.TaskBounds.{bounds_of, tasks_of_bounds}
use Rattle.run_lines.proofs.ResponseLaws.{same_tasks}
use Rattle.run_lines.proofs.bounds.bounds_of.Goals as goal

pub returns-clause-tasks : goal.returns-clause-tasks
returns-clause-tasks c =
    let places = c.args.places.now in
    let whole = take_all c.loop-place.place-index places (omega (arith, c.loop-place-test.false)) in
    ap tasks_of_bounds (c.loop-place.invariant ∙ ap bounds_of whole) ∙ same_tasks places
