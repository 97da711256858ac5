use Rattle.std.proofs.Common.{◌≡◌, ◌++◌, drop, string_bytes}
use Rattle.chain_runs.specs.Strays.{stray_lines}
use Rattle.chain_runs.proofs.strays.push_strays.Given as goal

abbrev pub invariant-loop-offset : goal.invariant-loop-offset
invariant-loop-offset l =
    string_bytes l.text ++ stray_lines l.set l.trace (drop l.offset-index l.offsets) l.rest
    ≡ string_bytes l.fn.text ++ stray_lines l.set l.trace l.offsets l.tasks
