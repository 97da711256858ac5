use Rattle.std.proofs.Common.{◌≡◌, ◌++◌, ◌+◌, drop, string_bytes}
use Rattle.plays.specs.Printed.{held_lines, state_lines}
use Rattle.plays.proofs.printing.book_text.Given as goal

abbrev pub invariant-loop-i : goal.invariant-loop-i
invariant-loop-i l =
    string_bytes l.text ++ held_lines l.fn.state.node (l.i + 1) (drop l.i l.places)
    ≡ state_lines l.fn.state.version l.fn.state.node l.places
