use Rattle.ceiling_kernel.proofs.NodeLaws.{after_is_above}
use Rattle.ceiling_kernel.proofs.laws.levels_follow_the_order.Goals as goal

pub returns : goal.returns
returns c = after_is_above
