use Rattle.std.proofs.Common.{◌≡◌, length}
use Rattle.observed.specs.Near.{rise_from}
use Rattle.observed.specs.Pieces.{pieces_at}
use Rattle.observed.proofs.near.rises.Given as goal

abbrev pub invariant-loop-slice : goal.invariant-loop-slice
invariant-loop-slice l =
    rise_from l.least (pieces_at l.promises l.rest.homes.now l.rest.slices.now)
    ≡ rise_from 0 (pieces_at l.promises l.housed.homes.now l.housed.slices.now)

abbrev pub decreases-loop-slice : goal.decreases-loop-slice
decreases-loop-slice l = length l.rest.homes.now
