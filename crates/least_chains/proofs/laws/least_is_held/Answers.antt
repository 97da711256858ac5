use Rattle.least_chains.proofs.BoundLaws.{deadlines-reach, least-held, least-none, least_bound-one}
use Rattle.least_chains.proofs.laws.least_is_held.Goals as goal

pub returns-clause-held : goal.returns-clause-held
returns-clause-held c writes offsets U tasks = least-held writes U offsets tasks

pub returns-clause-none : goal.returns-clause-none
returns-clause-none c writes offsets U tasks = least-none writes U offsets tasks

pub returns-clause-one : goal.returns-clause-one
returns-clause-one c writes offsets U tasks = least_bound-one writes U offsets tasks

pub returns-clause-deadlines : goal.returns-clause-deadlines
returns-clause-deadlines c offsets U = deadlines-reach U offsets
