use Rattle.std.proofs.lemmas.List.{append-nil}
use Rattle.candidate_workers.proofs.gathering.first_with.Goals as goal

pub returns-in-Ok : goal.returns-in-Ok
returns-in-Ok c = λ faults first. rw (c.in-Ok.is, append-nil) first

pub returns-in-Err : goal.returns-in-Err
returns-in-Err c = λ faults first.
    rw (c.in-Err.is, ← c.fault_of.ensures) (c.first_of.ensures faults first)
