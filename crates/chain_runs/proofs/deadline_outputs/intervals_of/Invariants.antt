use Rattle.std.proofs.Common.{◌≡◌, ◌++◌, drop, map}
use Rattle.chain_runs.specs.DeadlineOutputs.{interval_of}
use Rattle.chain_runs.proofs.deadline_outputs.intervals_of.Given as goal

abbrev pub invariant-loop-job : goal.invariant-loop-job
invariant-loop-job l =
    l.intervals.items ++ map (interval_of l.set) (drop l.job-index l.trace.jobs.items)
    ≡ map (interval_of l.set) l.trace.jobs.items
