use Rattle.least_chains.proofs.BoundLaws.{parts-end}
use Rattle.least_chains.proofs.least.least_parts.Goals as goal

pub returns : goal.returns
returns c = parts-end c.args.writes c.args.set.now c.args.tasks.now c.loop-task.rest.now
    c.loop-task.parts.items c.in_default.ensures.cases c.loop-task.invariant
