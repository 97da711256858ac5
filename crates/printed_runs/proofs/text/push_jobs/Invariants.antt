use Rattle.std.proofs.Common.{◌≡◌, ◌++◌, drop, string_bytes}
use Rattle.printed_runs.specs.TraceLines.{job_lines}
use Rattle.printed_runs.proofs.text.push_jobs.Given as goal

abbrev pub invariant-loop-job : goal.invariant-loop-job
invariant-loop-job l = string_bytes l.text ++ job_lines (drop l.job-index l.jobs)
    ≡ string_bytes l.initial.text ++ job_lines l.fn.jobs
