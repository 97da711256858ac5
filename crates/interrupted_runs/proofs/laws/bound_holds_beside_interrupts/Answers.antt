use Rattle.interrupted_runs.proofs.LateLaws.{bound_law, responses_hold, no_overrun_law}
use Rattle.interrupted_runs.proofs.laws.bound_holds_beside_interrupts.Goals as goal

pub returns-clause-bound : goal.returns-clause-bound
returns-clause-bound c = bound_law

pub returns-clause-response : goal.returns-clause-response
returns-clause-response c = responses_hold

pub returns-clause-no_overrun : goal.returns-clause-no_overrun
returns-clause-no_overrun c = no_overrun_law
