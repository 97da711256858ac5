use Rattle.overheads.proofs.ChargedSets.{count-charged, set-charged, IsByRank-charged}
use Rattle.overheads.proofs.laws.charged_is_set.Goals as goal

pub returns : goal.returns
returns c = record {
  set = set-charged;
  count = count-charged;
  ranks = λ U V xs. IsByRank-charged U V xs;
}
