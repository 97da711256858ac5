use Rattle.std.proofs.Common.{◌≡◌, ◌++◌, map, drop}
use Rattle.explain.specs.Parts.{interruption_at}
use Rattle.explain.proofs.parts.push_interruptions.Given as goal

abbrev pub invariant-loop-interrupt : goal.invariant-loop-interrupt
invariant-loop-interrupt l =
    l.parts.items ++ map (interruption_at l.time) (drop l.interrupt-index l.sheet.interrupts)
    ≡ l.fn.parts.items ++ map (interruption_at l.time) l.sheet.interrupts
