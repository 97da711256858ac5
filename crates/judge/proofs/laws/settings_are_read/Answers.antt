use Rattle.judge.proofs.SettingsLaws.{comes_back}
use Rattle.judge.proofs.laws.settings_are_read.Goals as goal

pub returns : goal.returns
returns c = λ U base order kept each some few. comes_back U base order kept each some few
