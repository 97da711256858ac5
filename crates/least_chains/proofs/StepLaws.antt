-- Whether a chain has a bound doesn't depend on how long its parts take.
use Rattle.std.proofs.Common.{◌≡◌, ℕ, List, Option, Some, None, option_map, refl, ◌∙◌, ap}
use Rattle.std.specs.Prelude.{is_some}
use Rattle.std.specs.List.{AllZip}
use Rattle.task_sheet.proofs.Common.{Task, greatest_of}
use Rattle.chains.specs.Walks.{IsNoLonger, bound_by, span_from, starts_of, steps_with}
use Rattle.chains.specs.declared.walks.Step.{Step}
use Rattle.chains.proofs.LongestLaws.{bound_some, delays_keep_starts, same_starts, some_starts}

starts-none : (steps : List Step) → bound_by steps ≡ None → starts_of steps ≡ None
starts-none steps = by (starts_of steps)
  where
    by : (o : Option (List ℕ)) → option_map (λ ts. greatest_of (λ t. span_from steps t) ts) o ≡ None → o ≡ None
    by None is = refl
    by (Some ts) is = absurd cc

-- with other parts there is one where there was
pub same-none : (U : List Task) (offsets first second tasks : List ℕ)
    → bound_by (steps_with U offsets first tasks) ≡ None
    → bound_by (steps_with U offsets second tasks) ≡ None
same-none U offsets first second tasks none =
    ap (option_map (λ ts. greatest_of (λ t. span_from (steps_with U offsets second tasks) t) ts))
    (delays_keep_starts U offsets second first tasks
    ∙ starts-none (steps_with U offsets first tasks) none)

pub also-bound : (steps others : List Step) (bound : ℕ) → AllZip IsNoLonger steps others
    → bound_by others ≡ Some bound → (b : ℕ) × (bound_by steps ≡ Some b)
also-bound steps others bound zipped is =
    bound_some steps (ap is_some (same_starts steps others zipped) ∙ some_starts others bound is)
