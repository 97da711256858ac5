use Rattle.assignment.proofs.FeasibilityLaws.{IsFeasible-own}
use Rattle.assignment.proofs.feasibility.is_feasible.Goals as goal

pub returns : goal.returns
returns c =
    let own = IsFeasible-own c.args.set.now in
    (λ so. own.1 (c.is_feasible_at.ensures.0 so), λ feasible. c.is_feasible_at.ensures.1 (own.0 feasible))
