use Rattle.std.proofs.Common.{◌≡◌, ◌++◌, drop, map}
use Rattle.teams.specs.Naming.{named_task, tasks_fault}
use Rattle.teams.proofs.naming.named_sheets.Given as goal

abbrev pub invariant-loop-sheet : goal.invariant-loop-sheet
invariant-loop-sheet l = record {
  fault : tasks_fault l.locks l.team (drop l.sheet-index l.sheets)
      ≡ tasks_fault l.locks l.team l.sheets;
  named : l.named.items ++ map (named_task l.locks) (drop l.sheet-index l.sheets)
      ≡ map (named_task l.locks) l.sheets;
}
