use Rattle.std.proofs.Common.{◌≡◌, drop}
use Rattle.observed.specs.Sweeps.{arrive_from}
use Rattle.observed.proofs.sweeps.jobs_rise.Given as goal

abbrev pub invariant-loop-job : goal.invariant-loop-job
invariant-loop-job l = arrive_from l.least (drop l.job-index l.jobs) ≡ arrive_from 0 l.jobs
