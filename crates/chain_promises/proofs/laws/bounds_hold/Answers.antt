use Rattle.chain_promises.proofs.HoldLaws.{in_runs, no_longer, number, simulated}
use Rattle.chain_promises.proofs.laws.bounds_hold.Goals as goal

pub returns-clause-runs : goal.returns-clause-runs
returns-clause-runs c = λ writes offsets U levels first others bound are is.
    in_runs U levels are writes offsets first others bound is

pub returns-clause-simulated : goal.returns-clause-simulated
returns-clause-simulated c = λ writes offsets U levels first others bound are is.
    simulated U levels are writes offsets first others bound is

pub returns-clause-number : goal.returns-clause-number
returns-clause-number c = λ writes U levels first others bound is. number U levels writes first others bound is

pub returns-clause-offsets : goal.returns-clause-offsets
returns-clause-offsets c = λ writes offsets U levels first others bound is.
    no_longer U levels writes offsets first others bound is
