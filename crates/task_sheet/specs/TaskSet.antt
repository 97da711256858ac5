-- Sets of tasks, by rank.
use Rattle.std.specs.Prelude.{◌≡◌, ℕ, ◌+◌, ◌≤◌, Bool, false, not, List, [], ◌∷◌, ◌++◌, length, All, Option, Some, None, if◌then◌else◌}
use Rattle.std.specs.List.{list_any, filter, AllByRecursion}
use Rattle.std.specs.List.Sorted.{IsStrictlySortedBy}
use Rattle.task_sheet.specs.Sheet.{Task, IsValidSheet, same_bytes}
use Rattle.task_sheet.specs.Rank.{rank_cmp}
use Rattle.task_sheet.specs.declared.set.TheConstants.{TASK_LIMIT}

-- the tasks have one name
abbrev pub same_name : Task → Task → Bool
same_name x y = same_bytes x.name y.name

-- none of the elements equals a later one
abbrev pub AreDistinct : {X : Type 0} → (X → X → Bool) → List X → Type 0
AreDistinct E [] = Unit {0}
AreDistinct E (x ∷ xs) = AllByRecursion (λ y. E x y ≡ false) xs × AreDistinct E xs

-- a task set: at most 32 valid sheets with distinct names, by rank
pub record IsTaskSet (xs : List Task) : Type 0 where
  pub valid : All IsValidSheet xs
  pub ranked : IsStrictlySortedBy rank_cmp xs
  pub distinct : AreDistinct same_name xs
  pub few : length xs ≤ TASK_LIMIT

-- some sheet has the name
abbrev pub has_name : List Task → List ℕ → Bool
has_name xs name = list_any (λ x. same_bytes x.name name) xs

-- the sheets that have another name, in their order
abbrev pub others_of : List Task → List ℕ → List Task
others_of xs name = filter (λ x. not (same_bytes x.name name)) xs

-- the place of the first sheet that has the name of one before it, where some stand before the list
abbrev pub first_repeat : List Task → ℕ → List Task → Option ℕ
first_repeat seen place [] = None
first_repeat seen place (x ∷ xs) =
    if has_name seen x.name then Some place else first_repeat (seen ++ x ∷ []) (place + 1) xs
