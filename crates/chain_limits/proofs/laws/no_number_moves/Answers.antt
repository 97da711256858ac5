use Rattle.chain_limits.proofs.ReachLaws.{none-bound}
use Rattle.chain_limits.proofs.laws.no_number_moves.Goals as goal

pub returns : goal.returns
returns c U offsets order tasks limit i number reach set grows is =
    none-bound offsets order tasks limit U i number set grows reach is
