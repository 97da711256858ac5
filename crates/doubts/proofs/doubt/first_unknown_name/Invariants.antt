use Rattle.std.proofs.Common.{◌≡◌, drop}
use Rattle.doubts.specs.Doubts.{first_of, no_such_names}
use Rattle.doubts.proofs.doubt.first_unknown_name.Given as goal

abbrev pub invariant-loop-sheet : goal.invariant-loop-sheet
invariant-loop-sheet l =
    first_of (no_such_names l.all (drop l.sheet-index l.sheets)) ≡ first_of (no_such_names l.all l.sheets)
