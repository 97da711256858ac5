-- What a job does from when it is ready to its finish: it executes in its own slices, and waits in others'.
use Rattle.std.specs.Prelude.{ℕ, min, max, nat_lt, ◌==◌, if◌then◌else◌, Option, Some, None, List, [], ◌∷◌}
use Rattle.ceiling_kernel.specs.declared.trace.Slice.{Slice}

-- a slice as far as it lies between two times
abbrev pub clipped : (from to : ℕ) → Slice → Slice
clipped from to s = record { job = s.job; start = max s.start from; stop = min s.stop to }

-- the same, where some time is left of it
abbrev pub piece_in : (from to : ℕ) → Slice → Option Slice
piece_in from to s =
    if nat_lt (max s.start from) (min s.stop to) then Some (clipped from to s) else None

-- some pieces, and before them one that may not be there
abbrev pub with_piece : Option Slice → List Slice → List Slice
with_piece None pieces = pieces
with_piece (Some p) pieces = p ∷ pieces

-- THE PIECES of a job that is ready from one time up to another: what lies between them of each slice, by time; in
-- those of its own it executes, in the others it waits
abbrev pub pieces_of : (from to : ℕ) → List Slice → List Slice
pieces_of from to [] = []
pieces_of from to (s ∷ slices) = with_piece (piece_in from to s) (pieces_of from to slices)

-- the piece of a slice in which a job waits, if there is one
abbrev pub wait_in : (job from to : ℕ) → Slice → Option Slice
wait_in job from to s = if s.job == job then None else piece_in from to s
