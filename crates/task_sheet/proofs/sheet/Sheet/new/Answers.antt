use Rattle.std.proofs.Common.{rules, ◌≡◌, Some}
use Rattle.task_sheet.proofs.Common.{task_of, sheet_fault}
use Rattle.task_sheet.proofs.SheetLaws.{never_valid}
use Rattle.task_sheet.proofs.sheet.Sheet.new.Goals as goal

pub returns-in-Some-list_fault-clause-refused : goal.returns-in-Some-list_fault-clause-refused
returns-in-Some-list_fault-clause-refused c = λ valid.
    let some : sheet_fault (task_of c.args.name c.args.weight c.args.period c.args.deadline
    c.args.cost c.args.sections.items) ≡ Some c.in-Some-list_fault.cause = search rules in
    never_valid _ c.in-Some-list_fault.cause some valid
