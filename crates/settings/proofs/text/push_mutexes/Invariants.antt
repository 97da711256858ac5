use Rattle.std.proofs.Common.{◌≡◌, ◌++◌, drop, string_bytes}
use Rattle.ceilings.specs.IsTableOf.{locks_of}
use Rattle.settings.specs.Settings.{mutex_lines_from}
use Rattle.settings.proofs.text.push_mutexes.Given as goal

abbrev pub invariant-loop-place : goal.invariant-loop-place
invariant-loop-place l =
    string_bytes l.text ++ mutex_lines_from l.set l.base l.order (drop l.place (locks_of l.set))
    ≡ string_bytes l.fn.text ++ mutex_lines_from l.set l.base l.order (locks_of l.set)
