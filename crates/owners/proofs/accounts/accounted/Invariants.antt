use Rattle.std.proofs.Common.{◌≡◌, ◌++◌, drop}
use Rattle.owners.specs.Accounts.{accounted_from}
use Rattle.owners.proofs.accounts.accounted.Given as goal

abbrev pub invariant-loop-task : goal.invariant-loop-task
invariant-loop-task l =
    l.all.items ++ accounted_from l.owners l.sheets l.said.items l.task (drop l.task l.sheets)
    ≡ accounted_from l.owners l.sheets l.said.items 0 l.sheets
