-- Sets of tasks as tests on indexes, and what is taken over the indexes below a number.
use Rattle.std.specs.Prelude.{ℕ, zero, suc, ◌+◌, Bool, false, ◌&&◌, ◌||◌, not, ◌==◌, nat_lt, max, List, [], ◌∷◌, ◌++◌, IsTrue, if◌then◌else◌}
use Rattle.std.specs.List.{list_any}
use Rattle.std.specs.FinSet as set
use Rattle.std.specs.Ordering.{nat_cmp}
use Rattle.task_sheet.specs.declared.set.TheConstants.{TASK_LIMIT}

-- a set of indexes, by which indexes are in it
abbrev pub Indexes : Type 0
Indexes = ℕ → Bool

-- no index
abbrev pub no_index : Indexes
no_index k = false

-- the indexes below n
abbrev pub below : ℕ → Indexes
below n k = nat_lt k n

-- these indexes and i
abbrev pub with_index : Indexes → ℕ → Indexes
with_index H i k = (k == i) || H k

-- these indexes without i
abbrev pub without_index : Indexes → ℕ → Indexes
without_index H i k = H k && not (k == i)

-- the indexes of either
abbrev pub either_of : Indexes → Indexes → Indexes
either_of G H k = G k || H k

-- the indexes that a list names
abbrev pub among : List ℕ → Indexes
among names k = list_any (λ x. x == k) names

-- what a `Members` has
abbrev pub indexes_of : set.FinSet nat_cmp → Indexes
indexes_of members k = set.contains members k

-- each index of the first is one of the second
abbrev pub IsPart : Indexes → Indexes → Type 0
IsPart G H = (k : ℕ) → IsTrue (G k) → IsTrue (H k)

-- the indexes of a set below n, rising
abbrev pub listed_below : ℕ → Indexes → List ℕ
listed_below zero L = []
listed_below (suc n) L = if L n then listed_below n L ++ n ∷ [] else listed_below n L

-- ---- over the numbers below n
-- the sum of the values below n
abbrev pub sum_below : ℕ → (ℕ → ℕ) → ℕ
sum_below zero f = 0
sum_below (suc n) f = sum_below n f + f n

-- the greatest of the values below n, and 0 of none
abbrev pub greatest_below : ℕ → (ℕ → ℕ) → ℕ
greatest_below zero f = 0
greatest_below (suc n) f = max (greatest_below n f) (f n)

-- some number below n passes
abbrev pub some_below : ℕ → (ℕ → Bool) → Bool
some_below zero p = false
some_below (suc n) p = some_below n p || p n

-- the two have an index in common that a task may have
unfoldable pub meet : Indexes → Indexes → Bool
meet G H = some_below TASK_LIMIT (λ k. G k && H k)
