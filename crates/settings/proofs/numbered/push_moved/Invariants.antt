use Rattle.std.proofs.Common.{◌≡◌, ◌++◌, drop, string_bytes}
use Rattle.settings.specs.Settings.{moved_lines}
use Rattle.settings.proofs.numbered.push_moved.Given as goal

abbrev pub invariant-loop-place : goal.invariant-loop-place
invariant-loop-place l =
    string_bytes l.text ++ moved_lines l.set l.old l.numbers l.place (drop l.place l.order)
    ≡ string_bytes l.fn.text ++ moved_lines l.set l.old l.numbers 0 l.order
