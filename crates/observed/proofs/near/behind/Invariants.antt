use Rattle.std.proofs.Common.{◌≡◌, length}
use Rattle.observed.specs.Near.{behind}
use Rattle.observed.specs.Pieces.{pieces_at}
use Rattle.observed.proofs.near.behind.Given as goal

abbrev pub invariant-loop-slice : goal.invariant-loop-slice
invariant-loop-slice l =
    behind l.time (pieces_at l.promises l.rest.homes.now l.rest.slices.now)
    ≡ behind l.time (pieces_at l.promises l.housed.homes.now l.housed.slices.now)

abbrev pub decreases-loop-slice : goal.decreases-loop-slice
decreases-loop-slice l = length l.rest.homes.now
