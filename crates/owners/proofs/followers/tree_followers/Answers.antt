use Rattle.owners.proofs.FollowerLaws.{task-step}
use Rattle.owners.proofs.followers.tree_followers.Goals as goal

pub loop-item-preserved : goal.loop-item-preserved
loop-item-preserved c =
    task-step c.items_at-items.result.now c.loop-item.item-index c.item-item.result
    c.loop-item.owners.items _ _ c.loop-item-test.true c.item-item.is
    c.in_ok-push_task.ensures c.loop-item.invariant
