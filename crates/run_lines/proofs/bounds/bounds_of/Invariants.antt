use Rattle.std.proofs.Common.{◌≡◌, take}
use Rattle.run_lines.specs.TaskBounds.{bounds_of}
use Rattle.run_lines.proofs.bounds.bounds_of.Given as goal

abbrev pub invariant-loop-place : goal.invariant-loop-place
invariant-loop-place l = l.bounds.items ≡ bounds_of (take l.place-index l.places)
