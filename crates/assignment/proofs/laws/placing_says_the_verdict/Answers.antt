use Rattle.assignment.proofs.VerdictPlacings.{says_same, some_verdict_says}
use Rattle.assignment.proofs.laws.placing_says_the_verdict.Goals as goal

pub returns : goal.returns
returns c = record {
  same = λ U verdict placing valid. says_same U valid verdict placing;
  some = λ U placing valid. some_verdict_says U valid placing;
}
