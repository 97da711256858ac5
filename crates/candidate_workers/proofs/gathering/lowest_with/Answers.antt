use Rattle.std.proofs.lemmas.List.{append-nil}
use Rattle.candidate_workers.proofs.gathering.lowest_with.Goals as goal

pub returns-in-Ok : goal.returns-in-Ok
returns-in-Ok c = λ places first. rw c.in-Ok.is (c.lowest_of.ensures places first)

pub returns-in-Err : goal.returns-in-Err
returns-in-Err c = λ places first. rw (c.in-Err.is, append-nil) first
