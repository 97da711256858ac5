-- Walks along a chain.
use Rattle.std.specs.Prelude.{◌≡◌, ℕ, ◌+◌, ◌<◌, ◌≤◌, List, [], ◌∷◌, length}
use Rattle.ceiling_kernel.specs.Tick.{Node, Job, job_at}
use Rattle.chains.specs.Bounds.{handed_within, written_within}
use Rattle.chains.specs.declared.bounds.Writes.{Writes}

-- From job q on a job of each task, which arrives late enough to read the one before it; the last one writes by a time.
abbrev pub IsWalk : Writes → Node → List Job → (response : ℕ → ℕ) → (first : ℕ) → (others : List ℕ)
    → (q by : ℕ) → Type 0
IsWalk writes node jobs response i [] q by =
    (job_at jobs q).arrival + written_within writes node i (response i) ≤ by
IsWalk writes node jobs response i (c ∷ others) q by =
    (r : ℕ) × (r < length jobs) × ((job_at jobs r).task ≡ c)
    × ((job_at jobs q).arrival + handed_within writes node i c (response i) ≤ (job_at jobs r).arrival)
    × IsWalk writes node jobs response c others r by
