use Rattle.explain.proofs.PartLaws.{parts-demand, parts-response}
use Rattle.explain.proofs.SumLaws.{need-adds_up}
use Rattle.explain.proofs.laws.parts_add_up.Goals as goal

pub returns-clause-demand : goal.returns-clause-demand
returns-clause-demand c = parts-demand

pub returns-clause-response : goal.returns-clause-response
returns-clause-response c = parts-response

pub returns-clause-need : goal.returns-clause-need
returns-clause-need c = need-adds_up
