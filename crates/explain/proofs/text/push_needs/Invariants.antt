use Rattle.std.proofs.Common.{◌≡◌, ◌++◌, drop, string_bytes}
use Rattle.explain.specs.ExplanationLines.{needs_lines}
use Rattle.explain.proofs.text.push_needs.Given as goal

abbrev pub invariant-loop-need : goal.invariant-loop-need
invariant-loop-need l =
    string_bytes l.text ++ needs_lines l.owners l.set (drop l.need-index l.needs) ≡ string_bytes l.fn.text
    ++ needs_lines l.owners l.set l.needs
