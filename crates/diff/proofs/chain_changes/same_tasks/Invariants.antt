use Rattle.std.proofs.Common.{◌≡◌, length}
use Rattle.diff.specs.Chains.{same_tasks}
use Rattle.diff.proofs.chain_changes.same_tasks.Given as goal

abbrev pub invariant-loop-task : goal.invariant-loop-task
invariant-loop-task l =
    same_tasks l.old l.rest l.new l.others ≡ same_tasks l.old l.olds l.new l.news

abbrev pub decreases-loop-task : goal.decreases-loop-task
decreases-loop-task l = length l.rest
