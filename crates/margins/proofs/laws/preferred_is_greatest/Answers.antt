use Rattle.margins.proofs.BearingLaws.{passes-slower, passes-factor, passes-costed, other_numbers-same}
use Rattle.margins.proofs.laws.preferred_is_greatest.Goals as goal

pub returns : goal.returns
returns c = record {
  slower = λ U V order factor preferred set best. passes-slower U V order preferred set best factor;
  factor = λ U V order most preferred set best. passes-factor U V order preferred set best most;
  costed = λ U V order i cost preferred set best.
      passes-costed U V order preferred set best i cost;
  other_numbers = λ U V order i within any preferred set best.
      other_numbers-same U V order preferred set best i within any;
}
