use Rattle.std.proofs.Common.{◌≡◌, option_map}
use Rattle.limits.specs.Written.{written}
use Rattle.limit_lines.proofs.LineLaws.{orders-written, node-within}
use Rattle.limit_lines.proofs.common.node_text.Goals as goal

pub lines_if-requires-clause-limits : goal.lines_if-requires-clause-limits
lines_if-requires-clause-limits c =
    rw c.node_of-node.ensures (node-within c.args.set.now c.sheets-own.ensures.kept)

pub lines_if-requires-clause-order : goal.lines_if-requires-clause-order
lines_if-requires-clause-order c =
    let is : c.in-Some.tasks ≡ written c.args.set.now = rw c.in-Some.is at c.in_ok-said.ensures in
    rw is (orders-written c.args.set.now (option_map (λ o. o.now) c.args.order) c.requires.order)
