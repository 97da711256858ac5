use Rattle.chain_lines.proofs.LeastLaws.{never-met}
use Rattle.chain_lines.proofs.laws.no_order_meets.Goals as goal

pub returns : goal.returns
returns c writes offsets U levels = never-met U levels writes offsets
