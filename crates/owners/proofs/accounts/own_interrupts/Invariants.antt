use Rattle.std.proofs.Common.{◌≡◌, ◌++◌, drop}
use Rattle.owners.specs.Accounts.{own_from}
use Rattle.owners.proofs.accounts.own_interrupts.Given as goal

abbrev pub invariant-loop-place : goal.invariant-loop-place
invariant-loop-place l =
    l.own.items ++ own_from l.owners l.sheets l.task l.place (drop l.place l.interrupts)
    ≡ own_from l.owners l.sheets l.task 0 l.interrupts
