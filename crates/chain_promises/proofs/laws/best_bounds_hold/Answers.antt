use Rattle.chain_promises.proofs.BestLaws.{best-begins, best-number, best-respond}
use Rattle.chain_promises.proofs.laws.best_bounds_hold.Goals as goal

pub returns : goal.returns
returns c = record { responses = best-respond; number = best-number; begins = best-begins }
