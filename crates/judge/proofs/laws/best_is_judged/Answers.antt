use Rattle.judge.proofs.OrderLaws.{best_judged, judged_tasks, judged_meet}
use Rattle.judge.proofs.laws.best_is_judged.Goals as goal

pub returns-clause-judged : goal.returns-clause-judged
returns-clause-judged c = best_judged

pub returns-clause-order : goal.returns-clause-order
returns-clause-order c = judged_tasks

pub returns-clause-meets : goal.returns-clause-meets
returns-clause-meets c = judged_meet
