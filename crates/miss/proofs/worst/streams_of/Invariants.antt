use Rattle.std.proofs.Common.{◌≡◌, ◌∷◌, map, take}
use Rattle.miss.specs.Misses.{member_stream}
use Rattle.miss.proofs.worst.streams_of.Given as goal

abbrev pub invariant-loop-member : goal.invariant-loop-member
invariant-loop-member l =
    l.streams.items ≡ map (member_stream l.set l.instant) (l.task ∷ take l.member-index l.above)
