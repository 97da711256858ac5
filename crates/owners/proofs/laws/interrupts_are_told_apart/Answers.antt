use Rattle.owners.proofs.PlaceLaws.{told_apart}
use Rattle.owners.proofs.laws.interrupts_are_told_apart.Goals as goal

pub returns : goal.returns
returns c = λ owners a b own first second. told_apart owners a b own first second
