use Rattle.std.proofs.Common.{◌≡◌, ◌++◌, string_bytes, take}
use Rattle.drawn_jobs.specs.Bars.{names_text}
use Rattle.drawn_jobs.proofs.parts.put_names.Given as goal

abbrev pub invariant-loop-name : goal.invariant-loop-name
invariant-loop-name l =
    string_bytes l.text ≡ string_bytes l.fn.text ++ names_text (take l.name-index l.names)
