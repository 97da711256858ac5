-- What the tasks of a conflict need, each below the others.
use Rattle.std.specs.Prelude.{◌≡◌, ℕ, ◌+◌, List, [], ◌∷◌, ◌++◌, length, reverse, IsFalse}
use Rattle.task_sheet.specs.Sheet.{Task, task_at}
use Rattle.task_sheet.specs.Indexes.{Indexes, without_index, listed_below}
use Rattle.task_sheet.specs.Responses.{IsFullChain}
use Rattle.task_sheet.specs.Demand.{demand_of, limit_of}
use Rattle.task_sheet.specs.Orders.{must_outrank_any}
use Rattle.task_sheet.specs.Verdicts.{IsLeastOver}
use Rattle.explain.specs.Parts.{IsPartsOf}
use Rattle.explain.specs.declared.accounts.Account.{Account}
use Rattle.explain.specs.declared.needs.Need.{Need}
use Rattle.explain.specs.declared.needs.Need.TheVariants.{Needs, MustBeAbove}

-- the two last numbers of a list
abbrev pub EndsWith : List ℕ → ℕ → ℕ → Type 0
EndsWith numbers before last = (rest : List ℕ) × (numbers ≡ rest ++ before ∷ last ∷ [])

-- what task i needs at least with the tasks H above it, where it doesn't pass with them: the last number of its full chain,
-- with its jitter; its parts at the number before, those above in an order (Audsley et al. 1993)
pub record IsNeedsAccount (U : List Task) (i : ℕ) (H : Indexes) (order : List ℕ) (a : Account) : Type 0 where
  pub chain : List ℕ
  pub before : ℕ
  pub last : ℕ
  pub full : IsFullChain (demand_of U i H) (limit_of (task_at U i)) chain
  pub ends : EndsWith chain before last
  pub task : a.task ≡ i
  pub time : a.time ≡ last + (task_at U i).jitter
  pub deadline : a.deadline ≡ (task_at U i).deadline
  pub parts : IsPartsOf U i H order before a.parts

-- the same, those above by rank, the last first
abbrev pub IsNeedsByRank : List Task → ℕ → Indexes → Account → Type 0
IsNeedsByRank U i H a = IsNeedsAccount U i H (reverse (listed_below (length U) H)) a

-- why task i of C may not stand below the others of C: where it must stand above some of them, the one of least rank,
-- else what it needs
abbrev pub IsNeedOf : List Task → Indexes → ℕ → Need → Type 0
IsNeedOf U C i (Needs a) =
    IsFalse (must_outrank_any U i (without_index C i)) × IsNeedsByRank U i (without_index C i) a
IsNeedOf U C i (MustBeAbove task other) = (task ≡ i) × IsLeastOver U i (without_index C i) other

-- why each of these tasks of C may not
abbrev pub AreNeedsOf : List Task → Indexes → List ℕ → List Need → Type 0
AreNeedsOf U C [] [] = Unit {0}
AreNeedsOf U C (i ∷ tasks) (n ∷ needs) = IsNeedOf U C i n × AreNeedsOf U C tasks needs
AreNeedsOf U C _ _ = ⊥
