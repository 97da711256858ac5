use Rattle.std.proofs.Common.{◌≡◌, ◌++◌, drop, string_bytes}
use Rattle.printed_runs.specs.TraceLines.{slice_lines}
use Rattle.printed_runs.proofs.text.push_slices.Given as goal

abbrev pub invariant-loop-slice : goal.invariant-loop-slice
invariant-loop-slice l =
    string_bytes l.text ++ slice_lines l.fn.trace.jobs.items
    (drop l.slice-index l.fn.trace.slices.items) ≡ string_bytes l.initial.text
    ++ slice_lines l.fn.trace.jobs.items l.fn.trace.slices.items
