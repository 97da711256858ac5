use Rattle.std.proofs.Common.{◌≡◌, ◌++◌, map, drop}
use Rattle.explain.specs.Parts.{all_interrupts, interruption_at}
use Rattle.explain.proofs.parts.interrupt_parts.Given as goal

abbrev pub invariant-loop-sheet : goal.invariant-loop-sheet
invariant-loop-sheet l =
    l.parts.items ++ map (interruption_at l.time) (all_interrupts (drop l.sheet-index l.set))
    ≡ map (interruption_at l.time) (all_interrupts l.set)
