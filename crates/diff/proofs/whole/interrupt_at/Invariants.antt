use Rattle.std.proofs.Common.{◌≡◌, drop}
use Rattle.diff.specs.Whole.{interrupts_of}
use Rattle.diff.proofs.whole.interrupt_at.Given as goal

abbrev pub invariant-loop-sheet : goal.invariant-loop-sheet
invariant-loop-sheet l = interrupts_of (drop l.sheet-index l.set) ≡ interrupts_of l.set
