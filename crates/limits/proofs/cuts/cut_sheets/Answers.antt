use Rattle.std.proofs.Common.{rules, ◌≡◌, ◌++◌, ◌∷◌, [], List, map, take, sym, ◌∙◌, ap}
use Rattle.std.proofs.lemmas.List.{map_more}
use Rattle.task_sheet.proofs.Common.{Task}
use Rattle.limits.specs.Cuts.{cut_task, none_follows}
use Rattle.limits.proofs.cuts.cut_sheets.Goals as goal

pub loop-sheet-preserved : goal.loop-sheet-preserved
loop-sheet-preserved c =
    let xs = c.sheets-sheets.result.now in
    let i = c.loop-sheet.sheet-index in
    let x = c.sheet-item.result in
    let f = cut_task none_follows c.args.lock c.args.most in
    let other = c.in_ok-other.other in
    let pushed : c.push.new.self.items ≡ c.loop-sheet.others.items ++ other ∷ [] = search rules in
    pushed
    ∙ ap (λ (ys : List Task). ys ++ other ∷ []) c.loop-sheet.invariant
    ∙ ap (λ (y : Task). map f (take i xs) ++ y ∷ []) (c.in_ok-other.ensures ∙ ap f c.sheet-item.is)
    ∙ sym (map_more f xs i x c.loop-sheet-test.true)
