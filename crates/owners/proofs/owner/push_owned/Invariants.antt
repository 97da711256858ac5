use Rattle.std.proofs.Common.{◌≡◌, ◌++◌, drop}
use Rattle.owners.specs.Owners.{owned_by}
use Rattle.owners.proofs.owner.push_owned.Given as goal

abbrev pub invariant-loop-sheet : goal.invariant-loop-sheet
invariant-loop-sheet l =
    l.owners.items ++ owned_by l.team (drop l.sheet-index l.sheets) ≡ l.fn.owners.items
    ++ owned_by l.team l.sheets
