use Rattle.std.proofs.Common.{◌≡◌, ◌++◌, drop}
use Rattle.owners.proofs.parts.copies_of.Given as goal

abbrev pub invariant-loop-sheet : goal.invariant-loop-sheet
invariant-loop-sheet l = l.copies.items ++ drop l.sheet-index l.sheets ≡ l.sheets
