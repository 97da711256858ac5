use Rattle.std.proofs.Common.{◌≡◌, [], drop}
use Rattle.owners.specs.Parts.{teams_from}
use Rattle.owners.proofs.parts.teams_of.Given as goal

abbrev pub invariant-loop-owner : goal.invariant-loop-owner
invariant-loop-owner l =
    teams_from l.teams.items (drop l.owner-index l.owners) ≡ teams_from [] l.owners
