use Rattle.std.proofs.Common.{◌≡◌, ◌∙◌, Ok, ap, refl, rules, subst, sym}
use Rattle.task_sheet.specs.TaskSet.{IsTaskSet}
use Rattle.ceiling_kernel.specs.Tick.{node_in}
use Rattle.cut_runs.specs.Cut.{IsShownOf}
use Rattle.judge.proofs.TaskLaws.{in_set}
use Rattle.run_lines.specs.TaskBounds.{tasks_of_bounds}
use Rattle.two_input_commands.specs.Simulate.{RunsOrderCut, bounds_judged}
use Rattle.two_input_commands.proofs.Ordered.{judged_run, tasks_same}
use Rattle.two_input_commands.proofs.simulate.simulate_in.Goals as goal

pub judge_order-requires : goal.judge_order-requires
judge_order-requires c = in_set c.args.set.now c.args.order.now c.requires

pub returns : goal.returns
returns c =
    let U = c.args.set.now in
    let order = c.args.order.now in
    let set : IsTaskSet U = search rules in
    let judged = c.in_ok-judged.judged.items in
    let each = c.in_ok-judged.ensures.judged in
    let bounds = c.in_ok-bounds.bounds.items in
    let is : bounds ≡ bounds_judged judged =
    c.in_ok-bounds.ensures ∙ ap bounds_judged c.deref.ensures.value in
    let same : tasks_of_bounds bounds ≡ order =
    ap tasks_of_bounds is ∙ (tasks_same judged ∙ c.in_ok-judged.ensures.order) in
    let run = c.in_ok-cut.cut in
    let ran : RunsOrderCut U order c.args.releases.items c.args.until (Ok run) =
    rw c.tasks.ensures at c.in_ok-cut.ensures in (
      refl,
      (judged, c.in_ok-judged.ensures.order, each, is),
      subst (λ o. IsShownOf (node_in U o) c.args.releases.items c.args.until run.overrun
          run.releases.items run.until) (sym same) ran.0.shown,
      judged_run U bounds order same run.releases.items run.until run.trace set ran.0.ran ran.1
          judged is each c.requires,
    )
