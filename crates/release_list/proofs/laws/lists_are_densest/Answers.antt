use Rattle.release_list.proofs.DensestLaws.{densest-is}
use Rattle.release_list.proofs.laws.lists_are_densest.Goals as goal

pub returns : goal.returns
returns c = λ U steady until set. densest-is U steady set until
