use Rattle.std.proofs.Common.{◌≡◌, max, drop}
use Rattle.drawn_jobs.specs.Misses.{latest_in}
use Rattle.drawn_jobs.proofs.misses.latest_in.Given as goal

abbrev pub invariant-loop-job : goal.invariant-loop-job
invariant-loop-job l =
    max l.latest (latest_in l.row (drop l.job-index l.jobs)) ≡ latest_in l.fn.row l.fn.jobs
