use Rattle.std.proofs.Common.{◌≡◌, ◌≤◌, ◌++◌, All, drop}
use Rattle.frames.specs.declared.places.TheConstants.{PLACES_LIMIT}
use Rattle.drawn_ways.specs.Stops.{stops_of}
use Rattle.drawn_ways.proofs.stops.stops_of.Given as goal

abbrev pub invariant-loop-leg : goal.invariant-loop-leg
invariant-loop-leg l = record {
  stops : l.stops.items ++ stops_of l.set l.rows l.shown (drop l.leg-index l.legs)
      ≡ stops_of l.set l.rows l.shown l.legs;
  within : All (λ s. s.k ≤ PLACES_LIMIT) l.stops.items;
}
