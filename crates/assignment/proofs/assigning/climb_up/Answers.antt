use Rattle.assignment.proofs.StepLaws.{steps-fewer}
use Rattle.assignment.proofs.assigning.climb_up.Goals as goal

pub loop-alloc-smaller : goal.loop-alloc-smaller
loop-alloc-smaller c =
    let so = c.is_unfinished.ensures.0 c.loop-alloc-test.true in
    steps-fewer c.loop-alloc.climb c.close_own.new.self so.goes_on c.close_own.ensures
