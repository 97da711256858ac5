use Rattle.std.proofs.Common.{◌≡◌, length}
use Rattle.diff.specs.Chains.{same_offsets}
use Rattle.diff.proofs.chain_changes.same_offsets.Given as goal

abbrev pub invariant-loop-old : goal.invariant-loop-old
invariant-loop-old l = same_offsets l.rest l.others ≡ same_offsets l.olds l.news

abbrev pub decreases-loop-old : goal.decreases-loop-old
decreases-loop-old l = length l.rest
