use Rattle.std.proofs.Common.{◌-◌}
use Rattle.release_list.proofs.TimeLaws.{AreListed}
use Rattle.release_list.proofs.list.list_of.Given as goal

abbrev pub invariant-loop-time : goal.invariant-loop-time
invariant-loop-time l = AreListed l.streams l.until l.time l.releases.items

abbrev pub decreases-loop-time : goal.decreases-loop-time
decreases-loop-time l = l.until - l.time
