use Rattle.std.proofs.Common.{◌≡◌, None}
use Rattle.diff.specs.Whole.{first_below, is_called}
use Rattle.diff.proofs.whole.first_called.Given as goal

abbrev pub invariant-loop-place : goal.invariant-loop-place
invariant-loop-place l = first_below l.place (is_called l.side.owners.now l.side.set.now l.name) ≡ None
