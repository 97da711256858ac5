use Rattle.std.proofs.Common.{rules, ◌≡◌, ◌∙◌, ◌++◌, ◌∷◌, [], List, take, map, sym, ap}
use Rattle.std.proofs.lemmas.List.{map_more}
use Rattle.task_sheet.proofs.Common.{Task}
use Rattle.limits.specs.Written.{written_task}
use Rattle.limits.proofs.WrittenLaws.{no-set, when-none}
use Rattle.limits.proofs.unpadded.written_sheets.Goals as goal

pub returns-in_default-clause-answer : goal.returns-in_default-clause-answer
returns-in_default-clause-answer c =
    no-set c.args.set.now c.sheets-sheets.result.now c.loop-sheet.sheet-index c.sheet-item.result
    c.sheets-sheets.ensures.same c.loop-sheet-test.true c.sheet-item.is
    (when-none c.in_ok-other.field-0 _ _ c.in_default.not-Some c.in_ok-other.ensures)

pub loop-sheet-preserved : goal.loop-sheet-preserved
loop-sheet-preserved c =
    let xs = c.sheets-sheets.result.now in
    let i = c.loop-sheet.sheet-index in
    let x = c.sheet-item.result in
    let other = c.in-Some.other in
    let is : other ≡ written_task x = rw c.in-Some.is at c.in_ok-other.ensures in
    let pushed : c.push.new.self.items ≡ c.loop-sheet.others.items ++ other ∷ [] = search rules in
    record {
      items = pushed
          ∙ ap (λ (ys : List Task). ys ++ other ∷ []) c.loop-sheet.invariant.items
          ∙ ap (λ (y : Task). map written_task (take i xs) ++ y ∷ [])
          (is ∙ ap written_task c.sheet-item.is)
          ∙ sym (map_more written_task xs i x c.loop-sheet-test.true);
    }
