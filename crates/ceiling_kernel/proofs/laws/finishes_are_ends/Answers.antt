use Rattle.ceiling_kernel.proofs.FinishLaws.{finish_is, unfinished_is}
use Rattle.ceiling_kernel.proofs.laws.finishes_are_ends.Goals as goal

pub returns : goal.returns
returns c = record {
  finished = λ node jobs until j f. finish_is node jobs j until f;
  unfinished =
      λ node jobs until j. unfinished_is node jobs j until;
}
