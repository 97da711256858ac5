use Rattle.std.proofs.Common.{◌≡◌, ◌++◌, drop}
use Rattle.std.specs.List.{All}
use Rattle.task_sheet.specs.Sheet.{IsInterrupt}
use Rattle.owners.specs.Accounts.{interrupts_on}
use Rattle.owners.proofs.accounts.interrupts_on.Given as goal

abbrev pub invariant-loop-sheet : goal.invariant-loop-sheet
invariant-loop-sheet l = record {
  all : l.all.items ++ interrupts_on (drop l.sheet-index l.sheets) ≡ interrupts_on l.sheets;
  valid : All IsInterrupt l.all.items;
}
