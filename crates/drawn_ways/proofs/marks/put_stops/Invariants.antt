use Rattle.std.proofs.Common.{◌≡◌, ◌≤◌, ◌++◌, All, length, string_bytes}
use Rattle.frames.specs.declared.places.TheConstants.{PLACES_LIMIT}
use Rattle.drawn_ways.specs.WayMarks.{stops_text}
use Rattle.drawn_ways.proofs.marks.put_stops.Given as goal

abbrev pub invariant-loop-stop : goal.invariant-loop-stop
invariant-loop-stop l = record {
  text : string_bytes l.text ++ stops_text l.frame l.ink l.chain l.rest
      ≡ string_bytes l.fn.text ++ stops_text l.frame l.ink l.chain l.stops;
  within : All (λ s. s.k ≤ PLACES_LIMIT) l.rest;
}

abbrev pub decreases-loop-stop : goal.decreases-loop-stop
decreases-loop-stop l = length l.rest
