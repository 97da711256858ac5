use Rattle.candidate_workers.proofs.CrewLaws.{never_shut}
use Rattle.candidate_workers.proofs.assaying.assay.Goals as goal

pub returns-clause-open : goal.returns-clause-open
returns-clause-open g c = never_shut (g.G.Gate.may_shut c.args.gate.now)
    c.args.set.value c.args.workers c.climb_up.result c.climb_up.ensures.fault
