use Rattle.overheads.proofs.PaddedSets.{count-padded, set-padded, IsByRank-padded}
use Rattle.overheads.proofs.laws.padded_is_set.Goals as goal

pub returns : goal.returns
returns c = record {
  set = set-padded;
  count = λ U node. count-padded node U;
  ranks = λ U V node. IsByRank-padded node U V;
}
