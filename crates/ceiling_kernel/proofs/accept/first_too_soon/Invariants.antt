use Rattle.std.proofs.Common.{◌≡◌, None}
use Rattle.ceiling_kernel.proofs.Common.{first_where, is_too_soon, jobs_of}
use Rattle.ceiling_kernel.proofs.AcceptLaws.{AreLast}
use Rattle.ceiling_kernel.proofs.accept.first_too_soon.Given as goal

abbrev pub invariant-loop-k : goal.invariant-loop-k
invariant-loop-k l = record {
  spaced : first_where (is_too_soon l.set (jobs_of l.set l.releases)) l.k ≡ None;
  last : AreLast l.set l.releases l.k l.last;
}
