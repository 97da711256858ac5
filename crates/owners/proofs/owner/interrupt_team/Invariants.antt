use Rattle.std.proofs.Common.{◌≡◌, drop}
use Rattle.owners.specs.Owners.{interrupt_team}
use Rattle.owners.proofs.owner.interrupt_team.Given as goal

abbrev pub invariant-loop-owner : goal.invariant-loop-owner
invariant-loop-owner l =
    interrupt_team (drop l.owner-index l.owners) l.left ≡ interrupt_team l.owners l.place
