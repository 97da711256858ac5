use Rattle.std.proofs.Common.{◌≡◌, drop}
use Rattle.observed.specs.Ranks.{stray_in}
use Rattle.observed.proofs.ranks.stray_in.Given as goal

abbrev pub invariant-loop-piece : goal.invariant-loop-piece
invariant-loop-piece l =
    stray_in l.set l.promises l.promise l.place l.from l.to (drop l.piece-index l.pieces)
    ≡ stray_in l.set l.promises l.promise l.place l.from l.to l.pieces
