-- Levels, from the lowest up, and sets that stand in the way of every order (Audsley 1991).
use Rattle.std.specs.Prelude.{ℕ, ◌<◌, List, [], ◌∷◌, IsTrue}
use Rattle.task_sheet.specs.Sheet.{Task}
use Rattle.task_sheet.specs.Indexes.{Indexes, without_index, IsPart}
use Rattle.task_sheet.specs.Orders.{all_of, Stands}

-- no task of S may stand below the others of S
abbrev pub NoneStands : List Task → Indexes → Type 0
NoneStands U S = (i : ℕ) → IsTrue (S i) → ¬ Stands U i (without_index S i)

-- an obstruction: some tasks of the set, none of which may stand below the others of them
pub record IsObstruction (U : List Task) (S : Indexes) : Type 0 where
  pub within : IsPart S (all_of U)
  pub some : (k : ℕ) × IsTrue (S k)
  pub stuck : NoneStands U S

-- the obstruction of which each other one is a part
pub record IsGreatestObstruction (U : List Task) (S : Indexes) : Type 0 where
  pub obstruction : IsObstruction U S
  pub greatest : (other : Indexes) → IsObstruction U other → IsPart other S

-- the task of least rank that may stand below the others of L
pub record IsChosen (U : List Task) (L : Indexes) (i : ℕ) : Type 0 where
  pub member : IsTrue (L i)
  pub stands : Stands U i (without_index L i)
  pub first : (j : ℕ) → j < i → IsTrue (L j) → ¬ Stands U j (without_index L j)

-- what is left of L once these are placed
abbrev pub left_after : Indexes → List ℕ → Indexes
left_after L [] = L
left_after L (i ∷ placed) = left_after (without_index L i) placed

-- each was chosen among those that were left
abbrev pub AllChosen : List Task → Indexes → List ℕ → Type 0
AllChosen U L [] = Unit {0}
AllChosen U L (i ∷ placed) = IsChosen U L i × AllChosen U (without_index L i) placed
