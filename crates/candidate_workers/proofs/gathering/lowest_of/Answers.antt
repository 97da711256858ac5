use Rattle.std.proofs.lemmas.List.{append-nil}
use Rattle.candidate_workers.proofs.gathering.lowest_of.Goals as goal

pub returns-in-Some : goal.returns-in-Some
returns-in-Some c = λ places first. rw c.in-Some.is (c.lower_of.ensures places first)

pub returns-in-None : goal.returns-in-None
returns-in-None c = λ places first. rw (c.in-None.is, append-nil) first
