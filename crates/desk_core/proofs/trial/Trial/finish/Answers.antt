use Rattle.desk_core.proofs.ProgressLaws.{tested-ended}
use Rattle.desk_core.proofs.trial.Trial.finish.Goals as goal

pub unreachable-requires : goal.unreachable-requires
unreachable-requires c =
    let a = c.self.inside in
    tested-ended a.set.value a.climb a.found.items c.self.invariant.held.progress
    (rw (← c.self.view_is) at c.requires) c.in-Err.ensures.0
