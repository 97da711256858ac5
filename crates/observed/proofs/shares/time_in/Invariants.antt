use Rattle.std.proofs.Common.{◌≡◌, ◌+◌, ◌*◌, ◌≤◌, drop}
use Rattle.observed.specs.Shares.{time_in}
use Rattle.observed.proofs.shares.time_in.Given as goal

abbrev pub invariant-loop-piece : goal.invariant-loop-piece
invariant-loop-piece l = record {
  small : l.time ≤ l.piece-index * 18446744073709551615;
  whole : l.time + time_in l.whom l.from l.to (drop l.piece-index l.pieces)
      ≡ time_in l.whom l.from l.to l.pieces;
}
