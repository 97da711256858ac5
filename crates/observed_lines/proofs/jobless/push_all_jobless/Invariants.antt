use Rattle.std.proofs.Common.{◌≡◌, ◌++◌, drop, string_bytes}
use Rattle.observed_lines.specs.Jobless.{jobless_lines}
use Rattle.observed_lines.proofs.jobless.push_all_jobless.Given as goal

abbrev pub invariant-loop-level : goal.invariant-loop-level
invariant-loop-level l = string_bytes l.text ++ jobless_lines l.level (drop l.level l.promises) l.seen
    ≡ string_bytes l.fn.text ++ jobless_lines 0 l.promises l.seen
