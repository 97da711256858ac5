use Rattle.std.proofs.Common.{◌≡◌, replicate, []}
use Rattle.ceiling_kernel.specs.Lists.{listed}
use Rattle.ceiling_kernel.proofs.lists.empty_lists.Given as goal

abbrev pub invariant-loop : goal.invariant-loop
invariant-loop l = listed l.lists.items ≡ replicate l.counter []
