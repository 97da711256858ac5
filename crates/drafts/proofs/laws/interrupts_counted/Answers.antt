use Rattle.drafts.proofs.InterruptLaws.{counted}
use Rattle.drafts.proofs.laws.interrupts_counted.Goals as goal

pub returns : goal.returns
returns c = counted
