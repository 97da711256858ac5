use Rattle.chains.proofs.HandoverLaws.{handover_law}
use Rattle.chains.proofs.laws.handovers_hold.Goals as goal

pub returns : goal.returns
returns c = handover_law
