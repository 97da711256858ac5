use Rattle.release_list.proofs.RandomLaws.{AreRanked}
use Rattle.release_list.proofs.random_list.jobs.Given as goal

abbrev pub invariant-loop-rank : goal.invariant-loop-rank
invariant-loop-rank l = AreRanked l.sheets l.steady l.until l.seed l.rank l.releases.items
