-- Orders of a set by limits, lowest first: the shorter the limit, the higher the task (Leung, Whitehead 1982; with jitter
-- Zuhily, Burns 2007). Without jitter the limits are the deadlines.
use Rattle.std.specs.Prelude.{◌≡◌, ℕ, ◌<◌, ◌≤◌, ◌⊎◌, List, [], ◌∷◌}
use Rattle.std.specs.List.{AllByRecursion}
use Rattle.std.specs.Ordering.{nat_cmp}
use Rattle.std.specs.Cmp.Lexicographic.{slice_cmp}
use Rattle.std.specs.declared.cmp.Ordering.TheVariants.{Less}
use Rattle.task_sheet.specs.Sheet.{Task, task_at}
use Rattle.task_sheet.specs.Demand.{limit_of}

-- the first task is wanted lower: its limit is longer, or the same where its name is less
abbrev pub IsLower : Task → Task → Type 0
IsLower x y =
    (limit_of y < limit_of x) ⊎ ((limit_of x ≡ limit_of y)
    × (slice_cmp nat_cmp x.name y.name ≡ Less))

-- at the lowest place where they differ, the first order has the task that is wanted lower: it is nearer to
-- limit-monotonic
abbrev pub IsNearer : List Task → List ℕ → List ℕ → Type 0
IsNearer U [] ys = ⊥
IsNearer U (x ∷ xs) [] = ⊥
IsNearer U (x ∷ xs) (y ∷ ys) = IsLower (task_at U x) (task_at U y) ⊎ ((x ≡ y) × IsNearer U xs ys)

-- limit-monotonic, called deadline-minus-jitter monotonic, too: no task has a longer limit than one below it
abbrev pub IsMonotonic : List Task → List ℕ → Type 0
IsMonotonic U [] = Unit {0}
IsMonotonic U (i ∷ above) =
    AllByRecursion (λ k. limit_of (task_at U k) ≤ limit_of (task_at U i)) above
    × IsMonotonic U above
