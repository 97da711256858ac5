use Rattle.std.proofs.Common.{◌≡◌, ◌+◌, drop}
use Rattle.settings.specs.Numbering.{anew_below}
use Rattle.settings.proofs.numbering.anew_below.Given as goal

abbrev pub invariant-loop-place : goal.invariant-loop-place
invariant-loop-place l = l.place + anew_below (drop l.place l.numbers) ≡ anew_below l.numbers
