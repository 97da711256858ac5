use Rattle.preferences.proofs.WeightLaws.{AllTasks-preferred}
use Rattle.preferences.proofs.MonotonicLaws.{best-monotonic}
use Rattle.preferences.proofs.laws.best_is_monotonic.Goals as goal

pub returns : goal.returns
returns c = λ U V order other valid preferred. best-monotonic U V preferred
    (AllTasks-preferred U V valid preferred) order other
