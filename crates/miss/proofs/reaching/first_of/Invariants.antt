use Rattle.std.proofs.Common.{◌≡◌, ℕ, ◌<◌}
use Rattle.ceiling_kernel.proofs.Common.{task_number, release_at}
use Rattle.miss.proofs.reaching.first_of.Given as goal

abbrev pub invariant-loop-place : goal.invariant-loop-place
invariant-loop-place l = (j : ℕ) → j < l.place
    → ¬ (task_number l.set (release_at l.releases j) ≡ l.task)
