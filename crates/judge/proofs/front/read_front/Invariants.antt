use Rattle.std.proofs.Common.{◌≡◌, ◌+◌, length}
use Rattle.lines.specs.TextLines.{kept_from, lines_of}
use Rattle.lines.specs.Steps.{ahead}
use Rattle.judge.specs.Front.{behind_front, front_of}
use Rattle.judge.specs.SettingLines.{rows_from}
use Rattle.judge.proofs.front.read_front.Given as goal

abbrev pub invariant-loop-line : goal.invariant-loop-line
invariant-loop-line l = record {
  rows : ahead l.rows.items (rows_from (front_of (kept_from l.at.line (lines_of l.at.rest.now))))
      ≡ rows_from (front_of (kept_from l.initial.at.line (lines_of l.initial.at.rest.now)));
  behind : behind_front (kept_from l.at.line (lines_of l.at.rest.now))
      ≡ behind_front (kept_from l.initial.at.line (lines_of l.initial.at.rest.now));
  end : l.at.line + length (lines_of l.at.rest.now)
      ≡ l.initial.at.line + length (lines_of l.initial.at.rest.now);
}

abbrev pub decreases-loop-line : goal.decreases-loop-line
decreases-loop-line l = length l.at.rest.now
