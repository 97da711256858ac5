use Rattle.std.proofs.Common.{◌≡◌, length}
use Rattle.lines.specs.TextLines.{kept_from, lines_of, rows_by}
use Rattle.lines.specs.Steps.{ahead}
use Rattle.lines.proofs.kept_lines.read_lines.Given as goal

abbrev pub invariant-loop-line : goal.invariant-loop-line
invariant-loop-line g l =
    ahead l.rows.items (rows_by g.L.LineRow.row_in (kept_from l.at.line (lines_of l.at.rest.now)))
    ≡ rows_by g.L.LineRow.row_in (kept_from l.initial.at.line (lines_of l.initial.at.rest.now))

abbrev pub decreases-loop-line : goal.decreases-loop-line
decreases-loop-line g l = length l.at.rest.now
