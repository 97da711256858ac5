use Rattle.std.proofs.Common.{◌≡◌, ◌<◌, ℕ, count_by, ◌==◌}
use Rattle.ceiling_kernel.proofs.levels.are_once.Given as goal

abbrev pub invariant-loop-index : goal.invariant-loop-index
invariant-loop-index l = (index : ℕ) → index < l.index → count_by (λ x. x == index) l.order ≡ 1
