use Rattle.std.proofs.Common.{◌≡◌, ◌≤◌}
use Rattle.owners.specs.Owners.{is_interrupt_of, number_below}
use Rattle.owners.proofs.owner.interrupts_before.Given as goal

abbrev pub invariant-loop-before : goal.invariant-loop-before
invariant-loop-before l =
    (l.count ≡ number_below l.before (is_interrupt_of l.owners l.team)) × (l.count ≤ l.before)
