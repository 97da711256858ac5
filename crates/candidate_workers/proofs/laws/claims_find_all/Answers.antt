use Rattle.candidate_workers.proofs.CrewLaws.{answered_up_to, handed_least}
use Rattle.candidate_workers.proofs.laws.claims_find_all.Goals as goal

pub returns-clause-answered : goal.returns-clause-answered
returns-clause-answered c = answered_up_to

pub returns-clause-least : goal.returns-clause-least
returns-clause-least c = handed_least
