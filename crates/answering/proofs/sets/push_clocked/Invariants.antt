use Rattle.std.proofs.Common.{◌≡◌, ◌++◌, map, take}
use Rattle.task_lines.specs.declared.owner.Owner.TheVariants.{Clocked}
use Rattle.answering.proofs.sets.push_clocked.Given as goal

abbrev pub invariant-loop-task : goal.invariant-loop-task
invariant-loop-task l = l.owners.items
    ≡ l.fn.owners.items ++ map (λ i. Clocked i) (take l.task-index l.chain.tasks)
