use Rattle.std.proofs.Common.{◌≡◌}
use Rattle.release_list.specs.Densest.{first_streams}
use Rattle.release_list.proofs.dense.streams_of.Given as goal

abbrev pub invariant-loop-rank : goal.invariant-loop-rank
invariant-loop-rank l = l.streams.items ≡ first_streams l.sheets l.steady l.rank
