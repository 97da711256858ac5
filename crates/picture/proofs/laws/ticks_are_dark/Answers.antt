use Rattle.std.proofs.Common.{arith}
use Rattle.picture.proofs.laws.ticks_are_dark.Goals as goal

pub returns : goal.returns
returns c = λ x e s n within. (
  λ both. grind (arith, both.0, both.1),
  λ inside. (grind (arith, inside), grind (arith, inside, within)),
)
