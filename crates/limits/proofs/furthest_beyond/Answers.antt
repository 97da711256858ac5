use Rattle.std.proofs.Common.{ℕ, List, Option, option_map, arith, rules}
use Rattle.limits.specs.Numbers.{at_distance, numbered}
use Rattle.limits.specs.InOrder.{PassesIn}
use Rattle.limits.proofs.EdgeLaws.{last-edge}
use Rattle.limits.proofs.NumberLaws.{PassesIn-easier, further, last-passing}
use Rattle.limits.proofs.furthest_beyond.Goals as goal

pub returns : goal.returns
returns c =
    let U = c.args.set.now in
    let i = c.args.task in
    let n = c.args.number in
    let order : Option (List ℕ) = option_map (λ o. o.now) c.args.order in
    let span = c.requires.span in
    let last = last-edge _ (λ far. PassesIn order (numbered U i n (at_distance n c.args.span.easiest far))) _ _ _
    c.in_ok-far.ensures.edge c.requires.passes
    (λ far answer from lt post. search rules)
    (λ near far from le lt. further (PassesIn order) (PassesIn-easier order) U i n
    c.args.span.easiest c.args.span.length span near far le (omega (arith, lt))) in
    rw c.at_distance.ensures (last-passing (PassesIn order) (PassesIn-easier order) U i n
    c.args.span.easiest c.args.span.length span _
    (omega (arith, c.in_ok-far.ensures.edge.before)) last.0
    (λ more lt le. last.1 more lt (omega (arith, le))))
