use Rattle.std.proofs.Common.{Option, subst}
use Rattle.candidate_workers.specs.Crews.{tasks_in, faults_of, IsFirstFault}
use Rattle.candidate_workers.specs.declared.assaying.AssayFault.{AssayFault}
use Rattle.candidate_workers.proofs.CrewLaws.{crew_named}
use Rattle.candidate_workers.proofs.Deciding.{decided_by}
use Rattle.candidate_workers.proofs.assaying.lowest.Goals as goal

pub returns-in-Some-clause-fault : goal.returns-in-Some-clause-fault
returns-in-Some-clause-fault g c =
    let may = g.G.Gate.may_shut c.args.gate.now in
    let crew = c.in-Ok.crew in
    crew_named may c.args.level.now c.args.workers crew c.in-Some.fault c.in-Ok.ensures.handed
    (subst (λ (o : Option AssayFault). IsFirstFault (faults_of crew) o) c.in-Some.is
    c.fault.ensures)

pub returns : goal.returns
returns g c =
    let shut = g.G.Gate.always_shuts c.args.gate.now in
    let may = g.G.Gate.may_shut c.args.gate.now in
    let l = c.args.level.now in
    let crew = c.in-Ok.crew in
    let so = c.in-Ok.ensures in
    let law = c.claims_find_all.ensures in
    let tasks = tasks_in crew.handed.items in
    let is = decided_by shut may l crew c.lowest.result c.left.ensures.part so.handed
    (so.whole c.in_default-fault.ensures) so.claims so.free
    (λ claimed k. law.answered l tasks claimed k) (λ claimed. law.least l tasks claimed)
    c.lowest.ensures in
    record { chosen = is.chosen; response = is.response; none = is.none; asked = is.asked; fault = tt }
