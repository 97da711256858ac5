use Rattle.judge.proofs.NumberedLaws.{anew_back, kept_back}
use Rattle.judge.proofs.laws.numbered_settings_are_read.Goals as goal

pub returns-clause-kept : goal.returns-clause-kept
returns-clause-kept c = kept_back

pub returns-clause-anew : goal.returns-clause-anew
returns-clause-anew c = anew_back
