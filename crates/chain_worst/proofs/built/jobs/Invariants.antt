use Rattle.chain_worst.proofs.JobLaws.{AreRanked}
use Rattle.chain_worst.proofs.built.jobs.Given as goal

abbrev pub invariant-loop-rank : goal.invariant-loop-rank
invariant-loop-rank l = AreRanked l.sheets l.until l.aims l.rank l.releases.items
