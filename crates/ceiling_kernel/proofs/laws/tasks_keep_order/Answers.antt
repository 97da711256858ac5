use Rattle.ceiling_kernel.proofs.TurnLaws.{keeps_order}
use Rattle.ceiling_kernel.proofs.laws.tasks_keep_order.Goals as goal

pub returns : goal.returns
returns c = keeps_order
