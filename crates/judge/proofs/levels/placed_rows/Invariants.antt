use Rattle.std.proofs.Common.{◌≡◌, ◌++◌, ◌+◌, drop}
use Rattle.judge.specs.Levels.{placed_rows}
use Rattle.judge.proofs.levels.placed_rows.Given as goal

abbrev pub invariant-loop-below : goal.invariant-loop-below
invariant-loop-below l =
    l.rows.items ++ placed_rows (l.below + 1) (drop l.below l.places) ≡ placed_rows 1 l.places
