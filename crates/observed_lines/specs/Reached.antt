-- What the jobs of a level came to.
use Rattle.std.specs.Prelude.{ℕ, Bool, ◌&&◌, ◌==◌, min, List, [], ◌∷◌, Option, Some, None}
use Rattle.std.specs.List.{filter}
use Rattle.observed.specs.SeenJob.{SeenData}

-- the jobs of a level
abbrev pub of_level : ℕ → List SeenData → List SeenData
of_level level seen = filter (λ s. s.level == level) seen

-- the lesser of two gaps, if there are any
abbrev pub lesser_gap : Option ℕ → Option ℕ → Option ℕ
lesser_gap None other = other
lesser_gap (Some one) None = Some one
lesser_gap (Some one) (Some other) = Some (min one other)

-- the least of a gap and those before jobs
abbrev pub least_from : Option ℕ → List SeenData → Option ℕ
least_from least [] = least
least_from least (s ∷ seen) = least_from (lesser_gap least s.gap) seen

-- the least gap before a job, if there is one
abbrev pub least_gap : List SeenData → Option ℕ
least_gap seen = least_from None seen

-- the job is of the level, and done
abbrev pub is_done_of : ℕ → SeenData → Bool
is_done_of level s = (s.level == level) && s.is_finished

-- the jobs of a level that are done
abbrev pub done_of : ℕ → List SeenData → List SeenData
done_of level seen = filter (is_done_of level) seen
