use Rattle.std.proofs.Common.{◌≡◌, None, map, take}
use Rattle.ceiling_kernel.proofs.Common.{first_where, is_unknown, task_number}
use Rattle.ceiling_kernel.proofs.accept.find_tasks.Given as goal

abbrev pub invariant-loop-k : goal.invariant-loop-k
invariant-loop-k l = record {
  known : first_where (is_unknown l.set l.releases) l.k ≡ None;
  places : l.places.items ≡ map (task_number l.set) (take l.k l.releases);
}
