-- Tasks of which a trace shows no job.
use Rattle.std.specs.Prelude.{ℕ, ◌+◌, ◌==◌, Bool, false, ◌&&◌, ◌||◌, not, List, [], ◌∷◌, ◌++◌, codes, if◌then◌else◌}
use Rattle.std.specs.List.{list_any}
use Rattle.observed.specs.declared.promises.Promise.{Promise}
use Rattle.observed.specs.SeenJob.{SeenData}
use Rattle.observed_lines.specs.Breaks.{is_kept}
use Rattle.observed_lines.specs.declared.leeway.Leeway.{Leeway}

-- the level has no job
abbrev pub is_jobless : ℕ → List SeenData → Bool
is_jobless level seen = not (list_any (λ s. s.level == level) seen)

-- some level of these has none, of which the first is this one
abbrev pub some_jobless : ℕ → List Promise → List SeenData → Bool
some_jobless level [] seen = false
some_jobless level (promise ∷ promises) seen =
    is_jobless level seen || some_jobless (level + 1) promises seen

-- a line where the level has none
abbrev pub jobless_line : ℕ → Promise → List SeenData → List ℕ
jobless_line level promise seen =
    if is_jobless level seen then codes "jobless " ++ promise.name ++ codes "\n" else []

-- such lines, the first of this level
abbrev pub jobless_lines : ℕ → List Promise → List SeenData → List ℕ
jobless_lines level [] seen = []
jobless_lines level (promise ∷ promises) seen =
    jobless_line level promise seen ++ jobless_lines (level + 1) promises seen

-- each task has a job, or need not have one, and no job breaks a promise
abbrev pub is_clean : Leeway → List Promise → List SeenData → Bool
is_clean leeway promises seen =
    (leeway.jobless || not (some_jobless 0 promises seen)) && is_kept leeway.tolerance seen
