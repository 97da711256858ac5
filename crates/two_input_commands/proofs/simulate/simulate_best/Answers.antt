use Rattle.std.proofs.Common.{◌≡◌, ◌∙◌, ap, refl, rules}
use Rattle.task_sheet.specs.TaskSet.{IsTaskSet}
use Rattle.assignment.specs.Placings.{IsBestPlacing, tasks_of_places}
use Rattle.run_lines.specs.TaskBounds.{bounds_of, tasks_of_bounds}
use Rattle.run_lines.proofs.ResponseLaws.{same_tasks}
use Rattle.two_input_commands.proofs.Ordered.{best_run}
use Rattle.two_input_commands.proofs.simulate.simulate_best.Goals as goal

pub returns-in_ok-bounds-in-Best : goal.returns-in_ok-bounds-in-Best
returns-in_ok-bounds-in-Best c =
    let U = c.args.tasks.now in
    let places = c.in-Best.places.items in
    let placing : IsBestPlacing U places =
    rw (c.of.ensures, c.in-Best.is) at c.in_ok-members.ensures in
    let both = rw (c.deref.ensures.value, c.deref-in-Best.ensures.value) at
    c.in_ok-trace-in-Best.ensures in
    let set : IsTaskSet U = search rules in
    let bounds = c.in_ok-bounds-in-Best.bounds.items in
    let is : bounds ≡ bounds_of places =
    c.in_ok-bounds-in-Best.ensures.bounds ∙ ap bounds_of c.deref-in-Best-2.ensures.value in
    let same : tasks_of_bounds bounds ≡ tasks_of_places places =
    ap tasks_of_bounds is ∙ same_tasks places in (
      (places, placing, is, refl, refl),
      (c.args.until, c.args.releases.items, refl, (refl, refl)),
      best_run U bounds (tasks_of_places places) same c.args.releases.items c.args.until
          c.in_ok-trace-in-Best.trace set both.0 both.1 places is refl placing,
    )
