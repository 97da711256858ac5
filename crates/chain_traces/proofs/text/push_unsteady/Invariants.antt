use Rattle.std.proofs.Common.{◌≡◌, ◌++◌, drop, string_bytes}
use Rattle.chain_traces.specs.TraceChainLines.{steady_lines}
use Rattle.chain_traces.proofs.text.push_unsteady.Given as goal

abbrev pub invariant-loop-job : goal.invariant-loop-job
invariant-loop-job l =
    string_bytes l.text ++ steady_lines l.tolerance l.chains (drop l.job-index l.seen)
    ≡ string_bytes l.fn.text ++ steady_lines l.tolerance l.chains l.seen
