use Rattle.std.proofs.Common.{◌≡◌, max, drop}
use Rattle.ceilings.specs.Holds.{longest_held}
use Rattle.ceilings.proofs.holds.longest_held.Given as goal

abbrev pub invariant-loop-held : goal.invariant-loop-held
invariant-loop-held l = max l.longest (longest_held (drop l.held-index l.tasks) l.members)
    ≡ longest_held l.tasks l.members
