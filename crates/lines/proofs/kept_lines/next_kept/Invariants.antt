use Rattle.std.proofs.Common.{◌≡◌, ◌≤◌, ◌+◌, length}
use Rattle.lines.specs.TextLines.{kept_from, lines_of}
use Rattle.lines.proofs.kept_lines.next_kept.Given as goal

abbrev pub invariant-loop-text : goal.invariant-loop-text
invariant-loop-text l = record {
  kept : kept_from l.at.line (lines_of l.at.rest.now)
      ≡ kept_from l.fn.at.line (lines_of l.fn.at.rest.now);
  end : l.at.line + length (lines_of l.at.rest.now)
      ≡ l.fn.at.line + length (lines_of l.fn.at.rest.now);
  less : length l.at.rest.now ≤ length l.fn.at.rest.now;
}

abbrev pub decreases-loop-text : goal.decreases-loop-text
decreases-loop-text l = length l.at.rest.now
