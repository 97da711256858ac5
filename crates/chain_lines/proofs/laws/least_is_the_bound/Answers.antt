use Rattle.chain_lines.proofs.LeastLaws.{least-is}
use Rattle.chain_lines.proofs.laws.least_is_the_bound.Goals as goal

pub returns : goal.returns
returns c offsets U levels = least-is U levels offsets
