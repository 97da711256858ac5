use Rattle.std.proofs.Common.{◌≡◌, ◌+◌, ◌≤◌, drop}
use Rattle.drawn_jobs.specs.Misses.{all_missed}
use Rattle.drawn_jobs.proofs.misses.all_missed.Given as goal

abbrev pub invariant-loop-job : goal.invariant-loop-job
invariant-loop-job l = record {
  within : l.count ≤ l.job-index;
  counted : l.count + all_missed l.frame l.rows (drop l.job-index l.jobs) ≡ all_missed l.frame l.rows l.jobs;
}
