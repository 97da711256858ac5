use Rattle.std.proofs.Common.{◌≡◌, drop, None}
use Rattle.drawn_ways.specs.Legs.{newest_leg}
use Rattle.drawn_ways.proofs.legs.newest_leg.Given as goal

abbrev pub invariant-loop-output : goal.invariant-loop-output
invariant-loop-output l =
    newest_leg l.task l.time (drop l.output-index l.outputs) l.found ≡ newest_leg l.task l.time l.outputs None
