use Rattle.chains.specs.Parts.{order_of}
use Rattle.chain_worst.proofs.PlanLaws.{in_order, tasks_within}
use Rattle.chain_worst.proofs.shown.plan_of.Goals as goal

pub aims_of-requires-clause-within : goal.aims_of-requires-clause-within
aims_of-requires-clause-within c =
    rw (c.deref.ensures.value, c.in_ok-order.ensures, c.of-tabled.ensures)
    (in_order c.args.set.now (order_of c.args.levels.now) c.requires.order)

pub aims_of-requires-clause-tasks : goal.aims_of-requires-clause-tasks
aims_of-requires-clause-tasks c =
    rw c.of-tabled.ensures
    (tasks_within c.args.set.now c.args.levels.now c.args.tasks.now c.requires.order c.requires.responses)
