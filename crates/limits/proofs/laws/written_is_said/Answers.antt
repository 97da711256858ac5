use Rattle.limits.proofs.WrittenLaws.{again-back, node-back, written-back}
use Rattle.limits.proofs.laws.written_is_said.Goals as goal

pub returns : goal.returns
returns c = record {
  set = λ U node xs none. written-back node xs U none;
  node = λ t ts node xs. node-back node xs t ts;
  again = λ U node other xs none. again-back node other xs U none;
}
