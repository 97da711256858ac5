use Rattle.std.proofs.Common.{◌≡◌, replicate, None}
use Rattle.ceiling_kernel.proofs.run.all_none.Given as goal

abbrev pub invariant-loop : goal.invariant-loop
invariant-loop g l = l.nones.items ≡ replicate l.counter None
