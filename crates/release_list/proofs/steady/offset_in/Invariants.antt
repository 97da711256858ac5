use Rattle.std.proofs.Common.{◌≡◌, drop}
use Rattle.release_list.specs.Steady.{offset_in}
use Rattle.release_list.proofs.steady.offset_in.Given as goal

abbrev pub invariant-loop-own : goal.invariant-loop-own
invariant-loop-own l = offset_in (drop l.own-index l.steady) l.rank ≡ offset_in l.steady l.rank
