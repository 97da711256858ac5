use Rattle.std.proofs.Common.{◌≡◌, take}
use Rattle.preferences.specs.Preferences.{weighed, weight_by}
use Rattle.preferences.proofs.preferred.weighed_sheets.Given as goal

abbrev pub invariant-loop-sheet : goal.invariant-loop-sheet
invariant-loop-sheet l = l.others.items
    ≡ weighed (weight_by l.preference l.chains l.sheets) (take l.sheet-index l.sheets)
