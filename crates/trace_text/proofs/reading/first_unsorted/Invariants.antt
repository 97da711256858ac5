use Rattle.std.proofs.Common.{◌≡◌, drop}
use Rattle.trace_text.specs.TraceFaults.{unsorted_from, unsorted_in}
use Rattle.trace_text.proofs.reading.first_unsorted.Given as goal

abbrev pub invariant-loop-job : goal.invariant-loop-job
invariant-loop-job l = unsorted_from l.earliest (drop l.job-index l.jobs) ≡ unsorted_in l.jobs
