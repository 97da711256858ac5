use Rattle.std.proofs.Common.{◌≡◌, ◌++◌, drop, string_bytes}
use Rattle.settings.specs.Settings.{thread_lines_at}
use Rattle.settings.proofs.numbered.push_threads_at.Given as goal

abbrev pub invariant-loop-place : goal.invariant-loop-place
invariant-loop-place l =
    string_bytes l.text ++ thread_lines_at l.set l.numbers l.place (drop l.place l.order)
    ≡ string_bytes l.fn.text ++ thread_lines_at l.set l.numbers 0 l.order
