use Rattle.std.proofs.Common.{◌≡◌, [], drop}
use Rattle.observed.specs.Strangers.{names_from}
use Rattle.observed.proofs.strangers.names_in.Given as goal

abbrev pub invariant-loop-piece : goal.invariant-loop-piece
invariant-loop-piece l = names_from l.from l.to l.names.items (drop l.piece-index l.pieces)
    ≡ names_from l.from l.to [] l.pieces
