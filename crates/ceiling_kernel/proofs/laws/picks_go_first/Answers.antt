use Rattle.ceiling_kernel.proofs.MachineLaws.{picked_is_first, none_pending}
use Rattle.ceiling_kernel.proofs.laws.picks_go_first.Goals as goal

pub returns : goal.returns
returns c = record { picked = picked_is_first; idle = none_pending }
