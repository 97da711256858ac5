use Rattle.std.proofs.Common.{◌≡◌, ◌++◌, drop, string_bytes}
use Rattle.observed_lines.specs.Broken.{own_lines}
use Rattle.observed_lines.proofs.broken.push_all_own.Given as goal

abbrev pub invariant-loop-job : goal.invariant-loop-job
invariant-loop-job l = string_bytes l.text ++ own_lines l.tolerance (drop l.job-index l.seen)
    ≡ string_bytes l.fn.text ++ own_lines l.tolerance l.seen
