-- The chosen task of each level, as a function, and the levels of a set that follow, from the lowest up (Audsley 1991).
use Rattle.std.specs.Prelude.{ℕ, zero, suc, Bool, ◌&&◌, not, List, length, Option, None, Some, if◌then◌else◌}
use Rattle.std.specs.Ordering.{nat_cmp}
use Rattle.std.specs.FinSet.{FinSet, remove}
use Rattle.task_sheet.specs.Sheet.{Task}
use Rattle.task_sheet.specs.Indexes.{Indexes, indexes_of, without_index}
use Rattle.task_sheet.specs.MembersWords.{all_below}
use Rattle.task_sheet.specs.Demand.{does_pass}
use Rattle.task_sheet.specs.Orders.{must_outrank_any}

-- task i may stand below the tasks H, as a test
abbrev pub does_stand : List Task → ℕ → Indexes → Bool
does_stand U i H = does_pass U i H && not (must_outrank_any U i H)

-- the number that was found, or else n where the test accepts it
abbrev pub or_last : Option ℕ → ℕ → Bool → Option ℕ
or_last (Some i) n last = Some i
or_last None n last = if last then Some n else None

-- the least number below n that the test accepts
abbrev pub least_below : ℕ → (ℕ → Bool) → Option ℕ
least_below zero p = None
least_below (suc n) p = or_last (least_below n p) n (p n)

-- the task of least rank that may stand below the others of L
unfoldable pub chosen_of : List Task → Indexes → Option ℕ
chosen_of U L = least_below (length U) (λ i. L i && does_stand U i (without_index L i))

-- the tasks without the one that is chosen, where one is
abbrev pub without_chosen : FinSet nat_cmp → Option ℕ → FinSet nat_cmp
without_chosen left None = left
without_chosen left (Some i) = remove left i

-- the candidates of a level, counted from 0: first all tasks, then without the one that was chosen;
-- past a level where none may stand they stay
unfoldable pub level_at : List Task → ℕ → FinSet nat_cmp
level_at U zero = all_below (length U)
level_at U (suc k) = without_chosen (level_at U k) (chosen_of U (indexes_of (level_at U k)))
