use Rattle.std.proofs.Common.{◌≡◌, max, drop}
use Rattle.release_list.specs.Densest.{instant_of}
use Rattle.release_list.proofs.dense.instant_of.Given as goal

abbrev pub invariant-loop-sheet : goal.invariant-loop-sheet
invariant-loop-sheet l =
    max l.instant (instant_of (drop l.sheet-index l.sheets)) ≡ instant_of l.sheets
