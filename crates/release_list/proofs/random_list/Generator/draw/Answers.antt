use Rattle.std.proofs.Common.{◌*◌, ◌/◌, ap}
use Rattle.release_list.specs.Random.{drawn}
use Rattle.release_list.proofs.random_list.Generator.draw.Goals as goal

pub returns-clause-drawn : goal.returns-clause-drawn
unfolding drawn
returns-clause-drawn c = ap (λ w. ((w / 4294967296) * c.args.below) / 4294967296) c.step.ensures
