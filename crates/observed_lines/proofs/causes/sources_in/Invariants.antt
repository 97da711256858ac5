use Rattle.std.proofs.Common.{◌≡◌, ◌++◌, drop}
use Rattle.observed_lines.specs.Causes.{sources_in}
use Rattle.observed_lines.proofs.causes.sources_in.Given as goal

abbrev pub invariant-loop-job : goal.invariant-loop-job
invariant-loop-job l = l.causes.items ++ sources_in l.tolerance (drop l.job-index l.seen)
    ≡ sources_in l.tolerance l.seen
