use Rattle.std.proofs.Common.{rules, ◌≡◌, ◌∷◌, [], ◌++◌}
use Rattle.preferences.specs.Preferences.{weight_by}
use Rattle.preferences.proofs.WeightLaws.{weighed_more}
use Rattle.preferences.proofs.preferred.weighed_sheets.Goals as goal

pub loop-sheet-preserved : goal.loop-sheet-preserved
loop-sheet-preserved c =
    let pushed : c.push.new.self.items ≡ c.loop-sheet.others.items
    ++ c.in_ok-weighed_sheet.field-0 ∷ [] = search rules in
    weighed_more (weight_by c.args.preference c.args.chains.now c.args.sheets.now)
    c.args.sheets.now _ _ c.loop-sheet.sheet-index c.sheet-item.result _
    c.loop-sheet-test.true c.sheet-item.is c.in_ok-weighed_sheet.ensures
    c.loop-sheet.invariant pushed
