use Rattle.certificate.proofs.ReadingLaws.{no_prefix}
use Rattle.certificate.proofs.laws.no_spelling_is_a_prefix.Goals as goal

pub returns : goal.returns
returns c = no_prefix
