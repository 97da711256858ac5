use Rattle.std.proofs.Common.{below_more}
use Rattle.std.proofs.lemmas.Bool.{both_ways}
use Rattle.task_sheet.specs.Indexes.{indexes_of}
use Rattle.least_chains.specs.LeastAbove.{IsOtherBelow}
use Rattle.least_chains.proofs.above.other_below.Goals as goal

pub loop-other-preserved : goal.loop-other-preserved
loop-other-preserved c =
    below_more (λ j. ¬ IsOtherBelow c.args.set.now (indexes_of c.args.left) c.args.task j) c.loop-other.other
    c.loop-other.invariant
    (λ so. both_ways _ c.if-is_other_below.false (c.is_other_below.ensures.1 so))
