use Rattle.std.proofs.Common.{◌≡◌, ◌++◌, drop, string_bytes}
use Rattle.judge.specs.Levels.{rows_lines}
use Rattle.judge.proofs.levels.push_rows.Given as goal

abbrev pub invariant-loop-row : goal.invariant-loop-row
invariant-loop-row l =
    string_bytes l.text ++ rows_lines l.owners l.set (drop l.row-index l.rows)
    ≡ string_bytes l.fn.text ++ rows_lines l.owners l.set l.rows
