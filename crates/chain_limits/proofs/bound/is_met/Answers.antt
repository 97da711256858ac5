use Rattle.chain_limits.proofs.OrderedLaws.{met-told}
use Rattle.chain_limits.proofs.bound.is_met.Goals as goal

pub returns-in-Some : goal.returns-in-Some
returns-in-Some c =
    met-told c.args.writes c.args.offsets.now c.args.set.now c.args.order.now c.args.tasks.now c.args.limit
    c.in-Some.bound c.sheets.ensures.kept c.requires
    (rw c.in-Some.is at c.in_ok-bound.ensures)
