use Rattle.owners.proofs.FollowerLaws.{section-step}
use Rattle.owners.proofs.followers.push_sections.Goals as goal

pub loop-place-preserved : goal.loop-place-preserved
loop-place-preserved c =
    section-step c.args.task c.args.items.now c.loop-place.place c.index-items-place.result
    c.loop-place.owners.items _ _ c.loop-place-test.true c.index-items-place.is
    c.in_ok-push_follower.ensures c.loop-place.invariant
