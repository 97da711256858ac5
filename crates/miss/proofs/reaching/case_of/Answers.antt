use Rattle.miss.proofs.reaching.case_of.Goals as goal

pub returns : goal.returns
returns c = rw c.of.ensures at c.case_in.ensures
