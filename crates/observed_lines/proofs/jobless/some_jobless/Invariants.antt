use Rattle.std.proofs.Common.{◌≡◌, drop}
use Rattle.observed_lines.specs.Jobless.{some_jobless}
use Rattle.observed_lines.proofs.jobless.some_jobless.Given as goal

abbrev pub invariant-loop-level : goal.invariant-loop-level
invariant-loop-level l = some_jobless l.level (drop l.level l.promises) l.seen
    ≡ some_jobless 0 l.promises l.seen
