use Rattle.std.proofs.Common.{rules}
use Rattle.task_sheet.proofs.Equality.{same_sheet_told}
use Rattle.task_sheet.proofs.sheet.SheetPartialEq.eq.Goals as goal

pub returns-then-eq-3-clause-same : goal.returns-then-eq-3-clause-same
returns-then-eq-3-clause-same c = same_sheet_told c.args.self.now c.args.other.now _ (search rules)

pub returns-else-eq-3-clause-same : goal.returns-else-eq-3-clause-same
returns-else-eq-3-clause-same c = same_sheet_told c.args.self.now c.args.other.now _ (search rules)
