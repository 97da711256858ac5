use Rattle.preferences.proofs.LimitLaws.{rank-lower}
use Rattle.preferences.proofs.laws.ranks_follow_limits.Goals as goal

pub returns : goal.returns
returns c = λ U V i j preferred. rank-lower U V preferred i j
