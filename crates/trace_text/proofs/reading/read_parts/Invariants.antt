use Rattle.std.proofs.Common.{◌≡◌, length}
use Rattle.trace_text.specs.TraceLines.{parts_of, rows_at}
use Rattle.trace_text.proofs.PartLaws.{behind}
use Rattle.trace_text.proofs.reading.read_parts.Given as goal

abbrev pub invariant-loop-line : goal.invariant-loop-line
invariant-loop-line l =
    behind l.trace.slices.items l.trace.jobs.items (rows_at l.at.line l.at.rest.now)
    ≡ parts_of (rows_at l.initial.at.line l.initial.at.rest.now)

abbrev pub decreases-loop-line : goal.decreases-loop-line
decreases-loop-line l = length l.at.rest.now
