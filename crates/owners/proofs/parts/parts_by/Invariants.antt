use Rattle.std.proofs.Common.{◌≡◌, ◌++◌, drop, map}
use Rattle.owners.specs.Parts.{parts_by}
use Rattle.owners.proofs.parts.parts_by.Given as goal

abbrev pub invariant-loop-team : goal.invariant-loop-team
invariant-loop-team l =
    map (λ part. part.items) l.parts.items
    ++ parts_by l.owners (drop l.team-index l.teams) l.rest.items
    ≡ parts_by l.owners l.teams l.sheets
