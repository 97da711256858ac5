use Rattle.std.proofs.Common.{◌≡◌, ◌++◌, drop, string_bytes}
use Rattle.two_input_commands.specs.Check.{said_lines}
use Rattle.two_input_commands.proofs.check.push_said.Given as goal

abbrev pub invariant-loop-chain : goal.invariant-loop-chain
invariant-loop-chain l =
    string_bytes l.text ++ said_lines (drop l.chain-index l.chains) l.rest
    ≡ string_bytes l.fn.text ++ said_lines l.chains l.said
