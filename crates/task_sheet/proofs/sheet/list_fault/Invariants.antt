use Rattle.std.proofs.Common.{◌≡◌, ◌+◌, ◌≤◌, drop}
use Rattle.task_sheet.specs.Sheet.{AreSections}
use Rattle.task_sheet.specs.SheetFault.{sections_fault}
use Rattle.task_sheet.proofs.sheet.list_fault.Given as goal

abbrev pub invariant-loop-i : goal.invariant-loop-i
invariant-loop-i l = record {
  within : l.from ≤ l.cost;
  same : sections_fault (l.i + 1) l.from l.cost (drop l.i l.sections)
      ≡ sections_fault 1 0 l.cost l.sections;
  valid : AreSections l.from l.cost (drop l.i l.sections) → AreSections 0 l.cost l.sections;
}
