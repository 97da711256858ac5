use Rattle.std.proofs.Common.{◌-◌}
use Rattle.chain_worst.proofs.JobLaws.{AreTaken}
use Rattle.chain_worst.proofs.built.push_jobs.Given as goal

abbrev pub invariant-loop-time : goal.invariant-loop-time
invariant-loop-time l = AreTaken l.sheet l.rank l.until l.aims l.time l.fn.releases.items l.releases.items

abbrev pub decreases-loop-time : goal.decreases-loop-time
decreases-loop-time l = l.until - l.time
