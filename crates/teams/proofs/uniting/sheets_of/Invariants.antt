use Rattle.std.proofs.Common.{◌≡◌, ◌++◌, drop, map}
use Rattle.teams.specs.Owned.{OwnedData}
use Rattle.teams.proofs.uniting.sheets_of.Given as goal

abbrev pub invariant-loop-task : goal.invariant-loop-task
invariant-loop-task l =
    l.sheets.items ++ map (λ (o : OwnedData). o.sheet) (drop l.task-index l.tasks)
    ≡ map (λ (o : OwnedData). o.sheet) l.tasks
