use Rattle.std.proofs.Common.{◌≡◌, ◌++◌, ◌+◌, drop, string_bytes}
use Rattle.settings.specs.Settings.{thread_lines}
use Rattle.settings.proofs.text.push_threads.Given as goal

abbrev pub invariant-loop-below : goal.invariant-loop-below
invariant-loop-below l =
    string_bytes l.text ++ thread_lines l.set (l.base + l.below) (drop l.below l.order)
    ≡ string_bytes l.fn.text ++ thread_lines l.set l.base l.order
