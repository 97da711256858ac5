-- The pieces of a trace that lie near a job.
use Rattle.std.specs.Prelude.{ℕ, Bool, true, ◌&&◌, nat_le, List, [], ◌∷◌, if◌then◌else◌}
use Rattle.observed.specs.declared.pieces.Piece.{Piece}

-- the pieces from the first on that ends after a time
abbrev pub behind : ℕ → List Piece → List Piece
behind time [] = []
behind time (p ∷ pieces) = if nat_le p.stop time then behind time pieces else p ∷ pieces

-- those up to the first that begins at a time or after it
abbrev pub ahead : ℕ → List Piece → List Piece
ahead time [] = []
ahead time (p ∷ pieces) = if nat_le time p.start then [] else p ∷ ahead time pieces

-- the first begins at a time or after it, and each other no sooner than the one before it
abbrev pub rise_from : ℕ → List Piece → Bool
rise_from least [] = true
rise_from least (p ∷ pieces) = nat_le least p.start && rise_from p.start pieces

-- of pieces from a time on, those up to another; where they don't rise, all of them
abbrev pub near : Bool → ℕ → List Piece → List Piece
near rises time pieces = if rises then ahead time pieces else pieces
