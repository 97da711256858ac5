use Rattle.miss.proofs.reaching.reach.Goals as goal

pub returns : goal.returns
returns c = rw c.of.ensures at c.reach_in.ensures
