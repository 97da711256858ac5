use Rattle.chain_limits.proofs.MetLaws.{met-easier}
use Rattle.chain_limits.proofs.laws.easier_keeps_chains.Goals as goal

pub returns : goal.returns
returns c writes V U offsets order tasks limit set_V set_U easy times met =
    met-easier V U set_V set_U easy writes offsets order tasks limit times met
