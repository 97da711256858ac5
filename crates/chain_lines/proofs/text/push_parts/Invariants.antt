use Rattle.std.proofs.Common.{◌≡◌, ◌++◌, drop, string_bytes}
use Rattle.chain_lines.specs.ChainLines.{part_lines}
use Rattle.chain_lines.proofs.text.push_parts.Given as goal

abbrev pub invariant-loop-part : goal.invariant-loop-part
invariant-loop-part l =
    string_bytes l.text ++ part_lines l.set (drop l.part-index l.parts)
    ≡ string_bytes l.fn.text ++ part_lines l.set l.parts
