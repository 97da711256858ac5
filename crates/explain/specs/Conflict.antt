-- Least conflicts: some tasks of which none may stand below the others, and none can be spared for that.
use Rattle.std.specs.Prelude.{◌≡◌, ℕ, zero, suc, ◌⊎◌, List, IsTrue}
use Rattle.task_sheet.specs.Sheet.{Task}
use Rattle.task_sheet.specs.Indexes.{Indexes, without_index, IsPart}
use Rattle.task_sheet.specs.Levels.{IsObstruction}

-- some of the tasks L are an obstruction
abbrev pub HoldsObstruction : List Task → Indexes → Type 0
HoldsObstruction U L = (S : Indexes) × IsObstruction U S × IsPart S L

-- the obstruction within L of which each other one within L is a part
pub record IsGreatestWithin (U : List Task) (L S : Indexes) : Type 0 where
  pub obstruction : IsObstruction U S
  pub within : IsPart S L
  pub greatest : (other : Indexes) → IsObstruction U other → IsPart other L → IsPart other S

-- a least conflict: an obstruction none of whose proper parts is one
pub record IsLeastConflict (U : List Task) (S : Indexes) : Type 0 where
  pub obstruction : IsObstruction U S
  pub least : (part : Indexes) → IsObstruction U part → IsPart part S → IsPart S part

-- ---- the way to it: members that can be spared are left out (Chinneck, Dravnieks 1991)
-- task i of L is gone through: where what is left without it holds an obstruction, the greatest of these takes the place
-- of L, and else L stays
abbrev pub IsGoneThrough : List Task → ℕ → Indexes → Indexes → Type 0
IsGoneThrough U i L M =
    (IsTrue (L i) × IsGreatestWithin U (without_index L i) M)
    ⊎ ((IsTrue (L i) → ¬ HoldsObstruction U (without_index L i)) × (M ≡ L))

-- M is left of S once the tasks of rank below n are gone through, by rank
abbrev pub IsLeftOf : List Task → Indexes → ℕ → Indexes → Type 0
IsLeftOf U S zero M = M ≡ S
IsLeftOf U S (suc n) M = (L : Indexes) × IsLeftOf U S n L × IsGoneThrough U n L M
