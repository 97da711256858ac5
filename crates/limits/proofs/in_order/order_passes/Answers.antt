use Rattle.assignment.proofs.FeasibilityLaws.{IsPassing-own}
use Rattle.limits.proofs.in_order.order_passes.Goals as goal

pub returns : goal.returns
returns c =
    let own = IsPassing-own c.args.set.now c.args.order.now in
    (λ so. own.1 (c.order_passes_at.ensures.0 so), λ passing. c.order_passes_at.ensures.1 (own.0 passing))
