use Rattle.ceiling_kernel.proofs.JumpLaws.{pick_stays_law, idle_stays_law}
use Rattle.ceiling_kernel.proofs.laws.picks_stay.Goals as goal

pub returns : goal.returns
returns c = record { picked = pick_stays_law; idle = idle_stays_law }
