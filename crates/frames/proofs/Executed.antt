-- The ticks that a job executes in slices.
use Rattle.std.proofs.Common.{◌≡◌, ℕ, ◌+◌, List, refl, add-one}
use Rattle.ceiling_kernel.specs.declared.trace.Slice.{Slice}
use Rattle.frames.specs.Slices.{slice_at, executed_in, executed_with}

-- no slice
pub executed_none : (slices : List Slice) (j : ℕ) → executed_in slices 0 j ≡ 0
unfolding executed_in
executed_none slices j = refl

-- one slice more
pub executed_more : (slices : List Slice) (n j : ℕ)
    → executed_in slices (n + 1) j ≡ executed_with j (executed_in slices n j) (slice_at slices n)
unfolding executed_in
executed_more slices n j = rw (add-one n) refl
