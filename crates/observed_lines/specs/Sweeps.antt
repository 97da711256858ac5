-- Causes in a sweep over jobs by their arrivals.
use Rattle.std.specs.Prelude.{◌≡◌, ℕ, ◌≤◌, Bool, true, ◌&&◌, nat_le, List, [], ◌∷◌}
use Rattle.std.specs.List.{find}
use Rattle.observed.specs.SeenJob.{SeenData}
use Rattle.observed_lines.specs.Causes.{delays}
use Rattle.observed_lines.specs.declared.causes.Source.{Source}

-- each came no sooner than a time, and than the one before it
abbrev pub come_from : ℕ → List Source → Bool
come_from least [] = true
come_from least (c ∷ cs) = nat_le least c.cause.arrival && come_from c.cause.arrival cs

-- of both the same is the first that delays a job, of those that arrive no sooner than a time
abbrev pub Agree : ℕ → List Source → List Source → Type 0
Agree time xs ys =
    (blocks : Bool) (least : ℕ) (s : SeenData) → time ≤ s.arrival
    → find (λ c. delays blocks least c s) xs ≡ find (λ c. delays blocks least c s) ys
