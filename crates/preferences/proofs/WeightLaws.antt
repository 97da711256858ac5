-- Sets whose weights are replaced.
use Rattle.std.proofs.Common.{◌≡◌, ℕ, ◌+◌, ◌<◌, false, None, List, [], ◌∷◌, ◌++◌, length, get_or}
use Rattle.std.proofs.Common.{take, sym, ◌∙◌, arith}
use Rattle.std.specs.List.{AllByRecursion}
use Rattle.std.proofs.lemmas.List.{length-map, map_more}
use Rattle.std.proofs.lemmas.List.Elements.{All-from_recursion, recursion_from_All}
use Rattle.std.proofs.lemmas.List.Sorted.{IsPermutation-refl, All-permutation}
use Rattle.task_sheet.proofs.Common.{Task, IsTask, AllTasks, IsByRank, same_name, AreDistinct}
use Rattle.task_sheet.proofs.Common.{IsTaskSet, sheets_fault, limit_of}
use Rattle.task_sheet.specs.Sheet.{weighing}
use Rattle.task_sheet.proofs.SetLaws.{no_fault, by_rank_one}
use Rattle.chain_tables.specs.Tables.{WrittenData}
use Rattle.preferences.specs.Preferences.{longer_limits, reweighed, lower_tasks, weighed, weight_by}
use Rattle.preferences.specs.Preferences.{IsPreferred}
use Rattle.task_sheet.specs.declared.prefer.Preference.{Preference}
use Rattle.task_sheet.specs.declared.prefer.Preference.TheVariants.{Weights, Deadline, Chains}

-- one sheet more
pub weighed_more : (weight : Task → ℕ) (U xs ys : List Task) (i : ℕ) (x y : Task) → i < length U
    → x ≡ get_or U i x → y ≡ weighing x (weight x) → xs ≡ weighed weight (take i U)
    → ys ≡ xs ++ y ∷ [] → ys ≡ weighed weight (take (i + 1) U)
weighed_more weight U xs ys i x y lt is weighs before pushed =
    pushed ∙ rw (before, weighs, is)
    (sym (map_more (λ (t : Task). weighing t (weight t)) U i x lt))

-- ---- weights of any kind
module _ (weight : Task → ℕ) where
  -- what doesn't rest on the weight holds of each task as before
  all-weighed : (P : Task → Type 0) → ((y : Task) (n : ℕ) → P y → P (weighing y n))
      → (xs : List Task) → AllByRecursion P xs → AllByRecursion P (weighed weight xs)
  all-weighed P kept [] h = tt
  all-weighed P kept (y ∷ ys) h = (kept y (weight y) h.0, all-weighed P kept ys h.1)

  distinct-weighed : (xs : List Task) → AreDistinct same_name xs
      → AreDistinct same_name (weighed weight xs)
  distinct-weighed [] h = tt
  distinct-weighed (y ∷ ys) h = (
    all-weighed (λ z. same_name y z ≡ false) (λ z n apart. apart) ys
        h.0,
    distinct-weighed ys h.1,
  )

-- the sheets with these weights are no fault
pub no_fault_weighed : (preference : Preference) (chains : List WrittenData) (U : List Task)
    → IsTaskSet U → sheets_fault (weighed (weight_by preference chains U) U) ≡ None
no_fault_weighed preference chains U set =
    let weight : Task → ℕ = weight_by preference chains U in
    no_fault (weighed weight U) (distinct-weighed weight U set.distinct)
    (omega (arith, set.few, length-map U (λ (t : Task). weighing t (weight t))))

-- ---- one set by each preference
pub IsPreferred-one : (preference : Preference) (chains : List WrittenData)
    (U first second : List Task) → IsPreferred preference chains U first
    → IsPreferred preference chains U second → first ≡ second
IsPreferred-one Weights chains U first second one other = one ∙ sym other
IsPreferred-one Deadline chains U first second one other = by_rank_one (reweighed U) (reweighed U)
    first second (IsPermutation-refl (reweighed U)) one other
IsPreferred-one Chains chains U first second one other =
    let xs = weighed (lower_tasks chains U) U in
    by_rank_one xs xs first second (IsPermutation-refl xs) one other

-- ---- the laws of the analysis hold of it
pub AllTasks-preferred : (U V : List Task) → AllTasks U → IsByRank (reweighed U) V → AllTasks V
AllTasks-preferred U V valid preferred =
    let each : AllByRecursion IsTask U = recursion_from_All IsTask U valid in
    let weighed = all-weighed (λ t. longer_limits U (limit_of t)) IsTask (λ y n task. record {
      period = task.period;
      jitter = task.jitter;
      cost = task.cost;
      within = task.within;
    }) U each in
    All-permutation IsTask (reweighed U) V preferred.permutation
    (All-from_recursion IsTask (reweighed U) weighed)
