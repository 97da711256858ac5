use Rattle.std.proofs.Common.{◌≡◌, ◌++◌, drop, string_bytes}
use Rattle.diff.specs.Keys.{plus_rest}
use Rattle.diff.proofs.keys.push_rest.Given as goal

abbrev pub invariant-loop-name : goal.invariant-loop-name
invariant-loop-name l = string_bytes l.text ++ plus_rest (drop l.name-index l.names)
    ≡ string_bytes l.fn.text ++ plus_rest l.names
