use Rattle.std.proofs.Common.{refl}
use Rattle.drawn_runs.proofs.RunLaws.{by_arrival}
use Rattle.drawn_runs.proofs.StandLaws.{stands_once}
use Rattle.drawn_runs.proofs.laws.each_job_stands_once.Goals as goal

pub returns-clause-stands : goal.returns-clause-stands
returns-clause-stands c = stands_once

pub returns-clause-places : goal.returns-clause-places
returns-clause-places c = λ f rows shown jobs. refl

pub returns-clause-arrivals : goal.returns-clause-arrivals
returns-clause-arrivals c = by_arrival
