use Rattle.drawn_ways.proofs.way.put_chain_line.Goals as goal

pub returns : goal.returns
returns c = rw c.top_of.ensures.value at c.write.ensures.bytes
