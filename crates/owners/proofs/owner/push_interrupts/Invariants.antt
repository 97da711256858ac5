use Rattle.std.proofs.Common.{◌≡◌, ◌++◌, drop}
use Rattle.owners.specs.Owners.{interrupts_by}
use Rattle.owners.proofs.owner.push_interrupts.Given as goal

abbrev pub invariant-loop : goal.invariant-loop
invariant-loop l =
    l.owners.items ++ interrupts_by l.team (drop l.index l.interrupts)
    ≡ l.fn.owners.items ++ interrupts_by l.team l.interrupts
