use Rattle.std.proofs.Common.{◌≡◌, ◌++◌, ◌+◌, drop, string_bytes}
use Rattle.explain.specs.ExplanationLines.{interrupt_lines}
use Rattle.explain.proofs.text.push_interrupts.Given as goal

abbrev pub invariant-loop-before : goal.invariant-loop-before
invariant-loop-before l =
    string_bytes l.text ++ interrupt_lines (l.before + 1) (drop l.before l.interrupts)
    ≡ string_bytes l.fn.text ++ interrupt_lines 1 l.interrupts
