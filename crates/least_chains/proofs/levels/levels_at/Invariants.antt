use Rattle.std.proofs.Common.{◌≡◌, take}
use Rattle.least_chains.specs.LeastBound.{levels_at}
use Rattle.least_chains.proofs.levels.levels_at.Given as goal

abbrev pub invariant-loop-place : goal.invariant-loop-place
invariant-loop-place l = l.levels.items ≡ levels_at (take l.place-index l.places)
