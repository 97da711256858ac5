use Rattle.std.proofs.Common.{None}
use Rattle.limits.specs.InOrder.{PassesIn}
use Rattle.limits.proofs.NumberLaws.{PassesIn-easier, known-far}
use Rattle.limits.proofs.furthest_from.Goals as goal

pub furthest_beyond-requires-clause-within : goal.furthest_beyond-requires-clause-within
furthest_beyond-requires-clause-within c =
    (known-far (PassesIn None) (PassesIn-easier None) c.args.set.now c.args.task c.args.number
    c.span_in-span.result.easiest
    c.span_in-span.result.length c.span_in-span.ensures.span c.args.known c.distance-far.result
    c.requires.may c.distance-far.ensures c.requires.passes).0

pub furthest_beyond-requires-clause-passes : goal.furthest_beyond-requires-clause-passes
furthest_beyond-requires-clause-passes c =
    (known-far (PassesIn None) (PassesIn-easier None) c.args.set.now c.args.task c.args.number
    c.span_in-span.result.easiest
    c.span_in-span.result.length c.span_in-span.ensures.span c.args.known c.distance-far.result
    c.requires.may c.distance-far.ensures c.requires.passes).1
