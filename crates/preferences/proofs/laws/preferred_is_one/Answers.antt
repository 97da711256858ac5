use Rattle.preferences.proofs.WeightLaws.{IsPreferred-one}
use Rattle.preferences.proofs.laws.preferred_is_one.Goals as goal

pub returns : goal.returns
returns c = IsPreferred-one
