use Rattle.ceiling_kernel.proofs.CutLaws.{cut_law, whole_law}
use Rattle.ceiling_kernel.proofs.LockLaws.{anew_law}
use Rattle.ceiling_kernel.proofs.laws.sheets_are_met.Goals as goal

pub returns : goal.returns
returns c = record { early = cut_law; anew = anew_law; whole = whole_law }
