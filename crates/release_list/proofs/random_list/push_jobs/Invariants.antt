use Rattle.std.proofs.Common.{◌-◌}
use Rattle.release_list.proofs.RandomLaws.{AreTaken}
use Rattle.release_list.proofs.random_list.push_jobs.Given as goal

abbrev pub invariant-loop-time : goal.invariant-loop-time
invariant-loop-time l = AreTaken l.sheet l.pace l.fn.generator.word l.until l.time l.generator.word
    l.fn.releases.items l.releases.items

abbrev pub decreases-loop-time : goal.decreases-loop-time
decreases-loop-time l = l.until - l.time
