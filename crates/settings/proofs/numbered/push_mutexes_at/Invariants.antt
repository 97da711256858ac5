use Rattle.std.proofs.Common.{◌≡◌, ◌++◌, drop, string_bytes}
use Rattle.ceilings.specs.IsTableOf.{locks_of}
use Rattle.settings.specs.Settings.{mutex_lines_at}
use Rattle.settings.proofs.numbered.push_mutexes_at.Given as goal

abbrev pub invariant-loop-place : goal.invariant-loop-place
invariant-loop-place l =
    string_bytes l.text ++ mutex_lines_at l.set l.numbers l.order (drop l.place (locks_of l.set))
    ≡ string_bytes l.fn.text ++ mutex_lines_at l.set l.numbers l.order (locks_of l.set)
