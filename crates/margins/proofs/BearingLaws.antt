-- Sets with other costs are alike, so that the order by limits passes where some order does.
use Rattle.std.proofs.Common.{◌≡◌, ◌↔◌, ℕ, zero, suc, ◌<◌, inl, inr, List, [], ◌∷◌, length}
use Rattle.std.proofs.Common.{None, Some, get_or, refl, sym, ◌∙◌, ap, subst, arith}
use Rattle.std.proofs.lemmas.Bool.{cases_eq}
use Rattle.std.proofs.lemmas.List.{length-set, get_or_default}
use Rattle.task_sheet.proofs.Common.{Task, IsValidSheet, AllTasks, no_task, task_at, IsTaskSet}
use Rattle.task_sheet.proofs.Common.{limit_of, IsPassingOrder, IsFeasible, IsBest}
use Rattle.task_sheet.proofs.TaskLaws.{valid_at, IsTask-from_valid, AllTasks-from_set}
use Rattle.other_numbers.specs.Costs.{with_cost}
use Rattle.other_numbers.proofs.CostLaws.{placed-other, placed-same}
use Rattle.limits.specs.declared.number.Number.TheVariants.{Cost}
use Rattle.limits.specs.Numbers.{numbered, MayHave, IsFurthest}
use Rattle.limits.specs.InOrder.{IsFurthestIn}
use Rattle.limits.proofs.NumberLaws.{in_order-within}
use Rattle.factor.specs.Factors.{IsFactor, PassesInAt}
use Rattle.response_time.proofs.SlowedLaws.{Slowed, slowed-eased}
use Rattle.preferences.specs.Preferences.{IsByDeadlines}
use Rattle.latest_first.specs.LatestFirst.{AllPrompt, AreAlike}
use Rattle.latest_first.proofs.OneOrder.{AllPrompt-valid, IsOrder-alike, IsLatestFirst-alike}
use Rattle.latest_first.proofs.OneOrder.{IsPassingBy-latest, IsPassingOrder-latest}
use Rattle.latest_first.proofs.BestLatest.{best-latest}
use Rattle.preferences.proofs.FollowLaws.{FollowLimits-preferred}

-- a set whose tasks are index by index valid and like those of another one
pub record AreRecosted (V W : List Task) : Type 0 where
  pub alike : AreAlike V W
  pub valid : (k : ℕ) → k < length V → IsValidSheet (task_at W k)

module _ {V W : List Task} (are : AreRecosted V W) where
  valid-any : (k : ℕ) (d : Task) → k < length W → IsValidSheet (get_or W k d)
  valid-any k d lt = subst IsValidSheet (get_or_default W k no_task d lt)
      (are.valid k (omega (arith, lt, are.alike.count)))

  tasks : AllTasks W
  tasks k d lt = IsTask-from_valid (get_or W k d) (valid-any k d lt)

  prompt : AllPrompt W
  prompt k d lt = let valid = valid-any k d lt in
      record { period = omega (arith, valid.period_from); deadline = valid.deadline_to }

-- ---- one cost
keeps-costed : {R : Type 0} (of : Task → R) → ((t : Task) (cost : ℕ) → of (with_cost t cost) ≡ of t)
    → (V : List Task) (i cost k : ℕ) → of (task_at (numbered V i Cost cost) k) ≡ of (task_at V k)
keeps-costed of kept [] i cost k = refl
keeps-costed of kept (t ∷ ts) zero cost zero = kept t cost
keeps-costed of kept (t ∷ ts) zero cost (suc k) = refl
keeps-costed of kept (t ∷ ts) (suc i) cost zero = refl
keeps-costed of kept (t ∷ ts) (suc i) cost (suc k) = keeps-costed of kept ts i cost k

-- ---- by a best order of the preferred set
module _ (U V : List Task) (order : List ℕ) (preferred : IsByDeadlines U V)
    (set : IsTaskSet V) (best : IsBest V order) where
  recosted : {W : List Task} → AreRecosted V W → IsPassingOrder W order ↔ IsFeasible W
  recosted {W} are =
      let first = best-latest V (AllTasks-from_set V set) (AllPrompt-valid V set)
      (FollowLimits-preferred U V preferred) order best in (
        λ passing. (order, passing),
        IsPassingOrder-latest W (tasks are) (prompt are) order (IsOrder-alike V W are.alike order
            best.passing.each_once) (IsLatestFirst-alike V W are.alike order first),
      )

  pub passes-slower : (factor : ℕ) → PassesInAt factor (Some order) V ↔ PassesInAt factor None V
  passes-slower factor = (
    λ passing. (order, passing),
    IsPassingBy-latest (Slowed factor) (slowed-eased factor) V (AllTasks-from_set V set) (AllPrompt-valid V set) order
        best.passing.each_once (best-latest V (AllTasks-from_set V set) (AllPrompt-valid V set)
        (FollowLimits-preferred U V preferred) order best),
  )

  pub passes-factor : (most : ℕ) → IsFactor V None most → PassesInAt most (Some order) V
  passes-factor most is = (passes-slower most).1 is.passes

  pub passes-costed : (i cost : ℕ) → i < length V → MayHave V i Cost cost
      → IsPassingOrder (numbered V i Cost cost) order ↔ IsFeasible (numbered V i Cost cost)
  passes-costed i cost inside may = recosted {W = numbered V i Cost cost} (record {
    alike = record {
      count = length-set V i (with_cost (task_at V i) cost);
      limits = keeps-costed (λ (t : Task). limit_of t) (λ t n. refl) V i cost;
      names = keeps-costed (λ (t : Task). t.name) (λ t n. refl) V i cost;
      outranks = keeps-costed (λ (t : Task). t.outranks) (λ t n. refl) V i cost;
    };
    valid = λ k lt. elim (cases_eq k i) [
      | inl e ↦ subst IsValidSheet (sym (ap (λ j. task_at (numbered V i Cost cost) j) e
          ∙ placed-same V i (with_cost (task_at V i) cost) inside)) may
      | inr ne ↦ subst IsValidSheet (sym (placed-other V i (with_cost (task_at V i) cost) k ne))
          (valid_at V k set lt)
    ];
  })

  pub other_numbers-same : (i within any : ℕ) → i < length V → IsFurthestIn V order i Cost within
      → IsFurthest V i Cost any → within ≡ any
  other_numbers-same i within any inside is other = omega (
    arith,
    in_order-within V order i Cost within any is other,
    is.furthest any other.may ((passes-costed i any inside other.may).1 other.feasible),
  )
