use Rattle.std.proofs.Common.{◌≤◌, arith}
use Rattle.std.proofs.lemmas.List.Elements.{All-nil}
use Rattle.candidate_workers.specs.Crews.{rank_of}
use Rattle.candidate_workers.proofs.CrewLaws.{first_of_later, first_of_earlier}
use Rattle.candidate_workers.proofs.gathering.first_of.Goals as goal

pub returns-in-None : goal.returns-in-None
returns-in-None c = λ faults first. first_of_later rank_of c.args.other faults
    (rw (rw c.in-None.is at first) (All-nil (λ x. rank_of c.args.other ≤ rank_of x)))

pub returns-then-rank_of : goal.returns-then-rank_of
returns-then-rank_of c = λ faults first. let least = (rw c.in-Some.is at first).1 in
    first_of_later rank_of c.args.other faults (λ k d lt. omega (
      arith,
      least k d lt,
      c.rank_of.ensures,
      c.rank_of-in-Some.ensures,
      c.if-rank_of.true,
    ))

pub returns-else-rank_of : goal.returns-else-rank_of
returns-else-rank_of c = λ faults first. first_of_earlier rank_of c.in-Some.fault c.args.other faults
    (omega (arith, c.rank_of.ensures, c.rank_of-in-Some.ensures, c.if-rank_of.false))
    (rw c.in-Some.is at first)
