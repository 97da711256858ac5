use Rattle.std.proofs.Common.{◌≡◌, ◌++◌, drop}
use Rattle.judge.specs.Levels.{judged_rows}
use Rattle.judge.proofs.levels.judged_rows.Given as goal

abbrev pub invariant-loop-place : goal.invariant-loop-place
invariant-loop-place l =
    l.rows.items ++ judged_rows l.numbers l.place (drop l.place l.judged)
    ≡ judged_rows l.numbers 0 l.judged
