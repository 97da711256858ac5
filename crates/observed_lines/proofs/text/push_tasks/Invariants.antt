use Rattle.std.proofs.Common.{◌≡◌, ◌++◌, drop, string_bytes}
use Rattle.observed_lines.specs.ObservedLines.{task_lines}
use Rattle.observed_lines.proofs.text.push_tasks.Given as goal

abbrev pub invariant-loop-level : goal.invariant-loop-level
invariant-loop-level l = string_bytes l.text ++ task_lines l.level (drop l.level l.promises) l.seen
    ≡ string_bytes l.fn.text ++ task_lines 0 l.promises l.seen
