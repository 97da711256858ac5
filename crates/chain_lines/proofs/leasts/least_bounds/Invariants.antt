use Rattle.chain_lines.proofs.LeastLaws.{GoesOn}
use Rattle.chain_lines.proofs.leasts.least_bounds.Given as goal

abbrev pub invariant-loop-chain : goal.invariant-loop-chain
invariant-loop-chain l = GoesOn l.set l.levels l.chains l.chain-index l.leasts.items
