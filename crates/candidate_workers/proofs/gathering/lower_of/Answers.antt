use Rattle.std.proofs.Common.{◌≤◌}
use Rattle.std.proofs.lemmas.List.Elements.{All-nil}
use Rattle.assignment.specs.Places.{PlaceData}
use Rattle.candidate_workers.proofs.CrewLaws.{first_of_later}
use Rattle.candidate_workers.proofs.gathering.lower_of.Goals as goal

pub returns-in-None : goal.returns-in-None
returns-in-None c = λ places first. first_of_later (λ (p : PlaceData). p.task) c.args.other places
    (rw (rw c.in-None.is at first) (All-nil (λ x. c.args.other.task ≤ x.task)))
