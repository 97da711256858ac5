-- A set with another task in the place of each, of the same name and weight, is a set by the same ranks.
use Rattle.std.proofs.Common.{◌≡◌, ℕ, ◌<◌, ◌≤◌, false, None, List, [], ◌∷◌, length}
use Rattle.std.proofs.Common.{Less, ◌∙◌, arith, map}
use Rattle.std.proofs.Math.ListN.{get_or-eq_default}
use Rattle.std.specs.List.{AllByRecursion, All}
use Rattle.std.specs.List.Sorted.{IsStrictlySortedBy}
use Rattle.std.proofs.lemmas.List.{length-map, get_or-map}
use Rattle.task_sheet.proofs.Common.{Task, IsValidSheet, no_task, task_at, rank_cmp, IsByRank}
use Rattle.task_sheet.proofs.Common.{same_name, AreDistinct, IsTaskSet, sheets_fault}
use Rattle.task_sheet.proofs.SetLaws.{IsByRank-is, no_fault}

-- tasks keep their ranks and names
pub record KeepsRanks (g : Task → Task) : Type 0 where
  pub ranks : (x y : Task) → rank_cmp (g x) (g y) ≡ rank_cmp x y
  pub names : (x y : Task) → same_name (g x) (g y) ≡ same_name x y

module _ (g : Task → Task) where
  pub count-mapped : (U : List Task) → length (map g U) ≡ length U
  count-mapped U = length-map U g

  -- the task at an index
  pub mapped-at : (U : List Task) (k : ℕ) → k < length U → task_at (map g U) k ≡ g (task_at U k)
  mapped-at U k lt = get_or-map g U k no_task no_task lt

  pub mapped-past : (U : List Task) (k : ℕ) → length U ≤ k → task_at (map g U) k ≡ no_task
  mapped-past U k past = get_or-eq_default (map g U) no_task (omega (arith, count-mapped U))

  all-mapped : (P Q : Task → Type 0) → ((y : Task) → P y → Q (g y)) → (U : List Task)
      → AllByRecursion P U → AllByRecursion Q (map g U)
  all-mapped P Q kept [] h = tt
  all-mapped P Q kept (y ∷ ys) h = (kept y h.0, all-mapped P Q kept ys h.1)

  module _ (keeps : KeepsRanks g) where
    ranked-mapped : (U : List Task) → IsStrictlySortedBy rank_cmp U
        → IsStrictlySortedBy rank_cmp (map g U)
    unfolding IsStrictlySortedBy
    ranked-mapped [] h = tt
    ranked-mapped (y ∷ ys) h = (
      all-mapped (λ z. rank_cmp y z ≡ Less) (λ z. rank_cmp (g y) z ≡ Less)
          (λ z before. keeps.ranks y z ∙ before) ys h.0,
      ranked-mapped ys h.1,
    )

    pub IsByRank-mapped : (U V : List Task) → IsTaskSet U → IsByRank (map g U) V → V ≡ map g U
    IsByRank-mapped U V set by_rank = IsByRank-is (map g U) V (ranked-mapped U set.ranked) by_rank

    distinct-mapped : (U : List Task) → AreDistinct same_name U → AreDistinct same_name (map g U)
    distinct-mapped [] h = tt
    distinct-mapped (y ∷ ys) h = (
      all-mapped (λ z. same_name y z ≡ false) (λ z. same_name (g y) z ≡ false)
          (λ z apart. keeps.names y z ∙ apart) ys h.0,
      distinct-mapped ys h.1,
    )

    -- the sheets are no fault
    pub no_fault-mapped : (U : List Task) → IsTaskSet U → sheets_fault (map g U) ≡ None
    no_fault-mapped U set =
        no_fault (map g U) (distinct-mapped U set.distinct) (omega (arith, set.few, count-mapped U))

    pub set-mapped : (U : List Task) → IsTaskSet U → All IsValidSheet (map g U)
        → IsTaskSet (map g U)
    set-mapped U set valid = record {
      valid = valid;
      ranked = ranked-mapped U set.ranked;
      distinct = distinct-mapped U set.distinct;
      few = omega (arith, set.few, count-mapped U);
    }
