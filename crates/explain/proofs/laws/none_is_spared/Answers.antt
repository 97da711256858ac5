use Rattle.explain.proofs.ConflictLaws.{none_spared}
use Rattle.explain.proofs.laws.none_is_spared.Goals as goal

pub returns : goal.returns
returns c = none_spared
