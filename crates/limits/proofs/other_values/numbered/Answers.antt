use Rattle.std.proofs.Common.{◌∙◌, sym}
use Rattle.std.proofs.lemmas.Option.{none-some}
use Rattle.task_sheet.specs.Sheet.{Task, task_at}
use Rattle.other_numbers.proofs.PlacedLaws.{placed-is, placed-fine}
use Rattle.limits.specs.Numbers.{with_number}
use Rattle.limits.proofs.NumberLaws.{namesake}
use Rattle.limits.proofs.other_values.numbered.Goals as goal

pub returns-in-Ok : goal.returns-in-Ok
returns-in-Ok c =
    let n = c.args.number in
    let v = c.args.value in
    placed-is c.args.set.now c.in_ok-sheets.sheets.items c.sheets-2.result.now c.args.task
    c.in_ok-sheets-2.field-0 c.index-sheets-task.result (λ (t : Task). with_number n t v)
    c.sheets.ensures.kept c.requires.task (c.in_ok-sheets.ensures ∙ c.sheets.ensures.same)
    c.sheets-2.ensures.same c.index-sheets-task.is c.in_ok-sheets-2.ensures
    (namesake n (task_at c.args.set.now c.args.task) v)
    c.in-Ok.other c.in-Ok.ensures.ok.1

pub unreachable-requires : goal.unreachable-requires
unreachable-requires c =
    let n = c.args.number in
    let v = c.args.value in
    let fine =
    placed-fine c.args.set.now c.in_ok-sheets.sheets.items c.sheets-2.result.now c.args.task
    c.in_ok-sheets-2.field-0 c.index-sheets-task.result (λ (t : Task). with_number n t v)
    c.sheets.ensures.kept c.requires.task (c.in_ok-sheets.ensures ∙ c.sheets.ensures.same)
    c.sheets-2.ensures.same c.index-sheets-task.is c.in_ok-sheets-2.ensures
    (namesake n (task_at c.args.set.now c.args.task) v) in
    none-some c.in-Err.fault.cause (sym fine ∙ c.in-Err.ensures.err c.in_default.not-OutOfMemory)
