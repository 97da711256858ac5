use Rattle.assignment.proofs.AskLaws.{remove-part}
use Rattle.candidate_workers.proofs.candidates.Candidates.place.Goals as goal

pub invariant_of-self : goal.invariant_of-self
invariant_of-self c = rw c.without-self-inside.ensures
    (remove-part c.self.inside.set.value c.self.inside.left c.args.task c.self.invariant)
