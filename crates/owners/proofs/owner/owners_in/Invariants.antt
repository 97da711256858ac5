use Rattle.std.proofs.Common.{length}
use Rattle.owners.proofs.OwnerLaws.{Gathers}
use Rattle.owners.proofs.owner.owners_in.Given as goal

abbrev pub invariant-loop-part : goal.invariant-loop-part
invariant-loop-part l = Gathers l.text l.rest l.owners.items

abbrev pub decreases-loop-part : goal.decreases-loop-part
decreases-loop-part l = length l.rest
