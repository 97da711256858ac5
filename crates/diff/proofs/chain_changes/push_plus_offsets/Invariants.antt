use Rattle.std.proofs.Common.{◌≡◌, ◌++◌, drop, string_bytes}
use Rattle.diff.specs.Chains.{plus_offsets}
use Rattle.diff.proofs.chain_changes.push_plus_offsets.Given as goal

abbrev pub invariant-loop-offset : goal.invariant-loop-offset
invariant-loop-offset l =
    string_bytes l.text ++ plus_offsets (drop l.offset-index l.offsets)
    ≡ string_bytes l.fn.text ++ plus_offsets l.offsets
