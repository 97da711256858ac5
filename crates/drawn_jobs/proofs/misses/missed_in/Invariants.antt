use Rattle.std.proofs.Common.{◌≡◌, ◌+◌, ◌≤◌, drop}
use Rattle.drawn_jobs.specs.Misses.{missed_in}
use Rattle.drawn_jobs.proofs.misses.missed_in.Given as goal

abbrev pub invariant-loop-job : goal.invariant-loop-job
invariant-loop-job l = record {
  within : l.count ≤ l.job-index;
  counted : l.count + missed_in l.frame l.row (drop l.job-index l.jobs) ≡ missed_in l.frame l.row l.jobs;
}
