use Rattle.chain_worst.proofs.AimLaws.{at_offsets}
use Rattle.chain_worst.proofs.SteadyLaws.{on_clock, steady}
use Rattle.chain_worst.proofs.laws.tasks_are_steady.Goals as goal

pub returns-clause-steady : goal.returns-clause-steady
returns-clause-steady c = λ U order until aims i m set lt own. steady U order until aims i m set lt own

pub returns-clause-clock : goal.returns-clause-clock
returns-clause-clock c = λ U order until aims i m set lt own. on_clock U order until aims i m set lt own

pub returns-clause-offsets : goal.returns-clause-offsets
returns-clause-offsets c = at_offsets
