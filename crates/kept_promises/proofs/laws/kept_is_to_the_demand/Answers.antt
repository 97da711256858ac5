use Rattle.kept_promises.proofs.BreakLaws.{all_are_kept, kept_all}
use Rattle.kept_promises.proofs.laws.kept_is_to_the_demand.Goals as goal

pub returns : goal.returns
returns c = λ seen. (kept_all seen, all_are_kept 0 seen)
