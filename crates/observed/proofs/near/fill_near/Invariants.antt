use Rattle.std.proofs.Common.{◌≡◌, ◌++◌, length}
use Rattle.observed.specs.Near.{near}
use Rattle.observed.specs.Pieces.{pieces_at}
use Rattle.observed.proofs.near.fill_near.Given as goal

abbrev pub invariant-loop-slice : goal.invariant-loop-slice
invariant-loop-slice l =
    l.pieces.items ++ near l.rises l.time (pieces_at l.promises l.rest.homes.now l.rest.slices.now)
    ≡ near l.rises l.time (pieces_at l.promises l.housed.homes.now l.housed.slices.now)

abbrev pub decreases-loop-slice : goal.decreases-loop-slice
decreases-loop-slice l = length l.rest.homes.now
