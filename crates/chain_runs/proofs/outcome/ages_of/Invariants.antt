use Rattle.std.proofs.Common.{◌≡◌, length}
use Rattle.chain_runs.specs.Outcomes.{ages_of, greater}
use Rattle.chain_runs.proofs.outcome.ages_of.Given as goal

abbrev pub invariant-loop-output : goal.invariant-loop-output
invariant-loop-output l = greater l.age (ages_of l.until l.rest) ≡ ages_of l.until l.outputs

abbrev pub decreases-loop-output : goal.decreases-loop-output
decreases-loop-output l = length l.rest
