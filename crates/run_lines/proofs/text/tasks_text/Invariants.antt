use Rattle.std.proofs.Common.{◌≡◌, ◌++◌, drop, string_bytes}
use Rattle.run_lines.specs.RunLines.{task_lines}
use Rattle.run_lines.proofs.text.tasks_text.Given as goal

abbrev pub invariant-loop-bound : goal.invariant-loop-bound
invariant-loop-bound l =
    string_bytes l.text ++ task_lines l.fn.set l.fn.jobs (drop l.bound-index l.bounds)
    ≡ task_lines l.fn.set l.fn.jobs l.fn.bounds
