use Rattle.std.proofs.Common.{◌≡◌, drop}
use Rattle.observed_lines.specs.Jobless.{is_jobless}
use Rattle.observed_lines.proofs.jobless.is_jobless.Given as goal

abbrev pub invariant-loop-job : goal.invariant-loop-job
invariant-loop-job l = is_jobless l.level (drop l.job-index l.seen) ≡ is_jobless l.level l.seen
