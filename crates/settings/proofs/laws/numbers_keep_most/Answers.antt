use Rattle.settings.proofs.NumberingLaws.{numbers_keep}
use Rattle.settings.proofs.laws.numbers_keep_most.Goals as goal

pub returns : goal.returns
returns c = numbers_keep
