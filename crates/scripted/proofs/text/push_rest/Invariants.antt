use Rattle.std.proofs.Common.{◌≡◌, ◌++◌, drop, string_bytes}
use Rattle.scripted.specs.Scripted.{plus_rest}
use Rattle.scripted.proofs.text.push_rest.Given as goal

abbrev pub invariant-loop-name : goal.invariant-loop-name
invariant-loop-name l = string_bytes l.text ++ plus_rest (drop l.name-index l.names)
    ≡ string_bytes l.fn.text ++ plus_rest l.names
