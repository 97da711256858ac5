use Rattle.std.proofs.Common.{arith}
use Rattle.picture.proofs.laws.held_between.Goals as goal

pub returns : goal.returns
returns c = λ x. (grind arith, λ e. grind arith)
