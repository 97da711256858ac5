use Rattle.std.proofs.Common.{◌≡◌, ◌++◌, All, drop, map}
use Rattle.teams.specs.Budgets.{task_share}
use Rattle.loads.specs.Shares.{IsShare}
use Rattle.teams.proofs.keeping.push_tasks.Given as goal

abbrev pub invariant-loop-sheet : goal.invariant-loop-sheet
invariant-loop-sheet l = record {
  are : l.shares.items ++ map task_share (drop l.sheet-index l.sheets)
      ≡ l.fn.shares.items ++ map task_share l.sheets;
  valid : All IsShare l.shares.items;
}
