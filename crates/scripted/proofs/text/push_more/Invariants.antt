use Rattle.std.proofs.Common.{◌≡◌, ◌++◌, drop, map, string_bytes}
use Rattle.scripted.specs.Scripted.{interrupt_word, plus_rest}
use Rattle.scripted.proofs.text.push_more.Given as goal

abbrev pub invariant-loop-interrupt : goal.invariant-loop-interrupt
invariant-loop-interrupt l =
    string_bytes l.text ++ plus_rest (map interrupt_word (drop l.interrupt-index l.interrupts))
    ≡ string_bytes l.fn.text ++ plus_rest (map interrupt_word l.interrupts)
