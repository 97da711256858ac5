use Rattle.chain_worst.proofs.ListLaws.{built_accepted}
use Rattle.chain_worst.proofs.laws.lists_are_legal.Goals as goal

pub returns : goal.returns
returns c = λ U until aims set horizon few. built_accepted U until aims set horizon few
