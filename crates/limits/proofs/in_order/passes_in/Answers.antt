use Rattle.limits.proofs.InOrderLaws.{PassesIn-own}
use Rattle.limits.proofs.in_order.passes_in.Goals as goal

pub returns : goal.returns
returns c =
    let own = PassesIn-own _ c.args.set.now in
    (λ so. own.1 (c.passes_in_at.ensures.0 so), λ passing. c.passes_in_at.ensures.1 (own.0 passing))
