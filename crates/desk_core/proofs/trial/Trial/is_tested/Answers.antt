use Rattle.desk_core.proofs.ProgressLaws.{tested-iff}
use Rattle.desk_core.proofs.trial.Trial.is_tested.Goals as goal

pub returns : goal.returns
returns c =
    let a = c.self.inside in
    rw (← c.self.view_is) (tested-iff a.set.value a.climb a.found.items
    c.self.invariant.held.progress
    c.is_unfinished.result c.is_unfinished.ensures)
