use Rattle.std.proofs.Common.{◌≡◌, ◌++◌, drop, string_bytes}
use Rattle.plays.specs.Printed.{names_text}
use Rattle.plays.proofs.printing.push_names.Given as goal

abbrev pub invariant-loop-name : goal.invariant-loop-name
invariant-loop-name l = string_bytes l.text ++ names_text (drop l.name-index l.names)
    ≡ string_bytes l.initial.text ++ names_text l.names
