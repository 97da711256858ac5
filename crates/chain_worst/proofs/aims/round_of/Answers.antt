use Rattle.chain_worst.proofs.AimLaws.{round_is}
use Rattle.chain_worst.proofs.aims.round_of.Goals as goal

pub returns-in-Some-starts_of-clause-round : goal.returns-in-Some-starts_of-clause-round
returns-in-Some-starts_of-clause-round c =
    round_is c.args.steps.now _ c.in-Some.step.now c.in-Some-starts_of.starts.first
    c.in-Some-starts_of.starts.period c.in-Some-starts_of.starts.count c.in-Some.ensures.cases.0
    c.in-Some-starts_of.ensures
