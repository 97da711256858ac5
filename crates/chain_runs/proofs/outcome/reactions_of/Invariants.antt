use Rattle.std.proofs.Common.{◌≡◌, length}
use Rattle.chain_runs.specs.Outcomes.{greater, reactions_of}
use Rattle.chain_runs.proofs.outcome.reactions_of.Given as goal

abbrev pub invariant-loop-output : goal.invariant-loop-output
invariant-loop-output l = greater l.reaction (reactions_of l.rest) ≡ reactions_of l.outputs

abbrev pub decreases-loop-output : goal.decreases-loop-output
decreases-loop-output l = length l.rest
