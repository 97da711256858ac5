use Rattle.std.proofs.Common.{◌≡◌, ◌++◌, drop}
use Rattle.std.specs.List.{filter}
use Rattle.owners.specs.Owners.{has_task}
use Rattle.owners.proofs.parts.tasks_of.Given as goal

abbrev pub invariant-loop-sheet : goal.invariant-loop-sheet
invariant-loop-sheet l = l.own.items ++ filter (has_task l.owners l.team) (drop l.sheet-index l.sheets)
    ≡ filter (has_task l.owners l.team) l.sheets
