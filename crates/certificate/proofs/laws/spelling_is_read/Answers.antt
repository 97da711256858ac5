use Rattle.certificate.proofs.ReadingLaws.{reads_back, trails}
use Rattle.certificate.proofs.laws.spelling_is_read.Goals as goal

pub returns-clause-back : goal.returns-clause-back
returns-clause-back c = reads_back

pub returns-clause-trailing : goal.returns-clause-trailing
returns-clause-trailing c = trails
