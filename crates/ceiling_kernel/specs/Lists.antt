-- The lists of the tasks whose jobs are pending, one per priority.
use Rattle.std.specs.Prelude.{ℕ, zero, suc, ◌≡◌, ◌≢◌, ◌<◌, ◌==◌, nat_lt, ◌++◌, ◌∷◌, [], List, map, Option, Some, if◌then◌else◌, slice_index_or, slice_set, drop}
use Rattle.std.specs.declared.collections.VecDeque.{VecDeque}
use Rattle.std.specs.declared.alloc.Global.{Global}
use Rattle.std.specs.VecDeque.{deque_items}
use Rattle.ceiling_kernel.specs.declared.run.Pending.{Pending}

-- the lists, the lowest priority first
abbrev pub listed : List (VecDeque ℕ Global) → List (List ℕ)
listed lists = map deque_items lists

-- the list of a priority
abbrev pub list_at : List (List ℕ) → ℕ → List ℕ
list_at lists p = slice_index_or lists p []

-- a task goes to the tail of list p
abbrev pub with_tail : List (List ℕ) → ℕ → ℕ → List (List ℕ)
with_tail lists p task = slice_set lists p (list_at lists p ++ task ∷ [])

-- list p loses its head
abbrev pub without_head : List (List ℕ) → ℕ → List (List ℕ)
without_head lists p = slice_set lists p (drop 1 (list_at lists p))

-- a task becomes the head of list p
abbrev pub with_head : List (List ℕ) → ℕ → ℕ → List (List ℕ)
with_head lists p task = slice_set lists p (task ∷ list_at lists p)

-- the head of a list goes to another: to the head of a lower one, to the tail of a higher one
abbrev pub moved_to : List (List ℕ) → (old new task : ℕ) → List (List ℕ)
moved_to lists old new task =
    if old == new then lists
    else (if nat_lt new old then with_head (without_head lists old) new task
    else with_tail (without_head lists old) new task)

-- the head of the highest list that isn't empty, after one that was found before
abbrev pub head_or : List ℕ → Option ℕ → Option ℕ
head_or [] found = found
head_or (x ∷ xs) found = Some x

-- the head of the highest list that is not empty; the lists stand from the lowest up
abbrev pub head_of_highest : List (List ℕ) → Option ℕ → Option ℕ
head_of_highest [] found = found
head_of_highest (xs ∷ lists) found = head_of_highest lists (head_or xs found)

-- a task stands at a place of a list
abbrev pub StandsAt : List ℕ → ℕ → ℕ → Type 0
StandsAt [] n i = ⊥
StandsAt (x ∷ xs) zero i = x ≡ i
StandsAt (x ∷ xs) (suc n) i = StandsAt xs n i

-- each list holds the tasks whose pending jobs have its priority, by rising own level;
-- a slot holds a task's pending job
pub record Queues (slot : ℕ → Option Pending) (list : ℕ → List ℕ) : Type 0 where
  pub sound : (p n i : ℕ) → StandsAt (list p) n i
      → (q : Pending) × (slot i ≡ Some q) × (q.active ≡ p)
  pub complete : (i : ℕ) (q : Pending) → slot i ≡ Some q → (n : ℕ) × StandsAt (list q.active) n i
  pub rising : (p n m i k : ℕ) (q r : Pending) → n < m
      → StandsAt (list p) n i → StandsAt (list p) m k
      → slot i ≡ Some q → slot k ≡ Some r
      → q.level < r.level

-- where a job executes above its own level, no other pending job has that level's priority
abbrev pub IsAlone : (slot : ℕ → Option Pending) → Type 0
IsAlone slot =
    (i k : ℕ) (q r : Pending) → slot i ≡ Some q → slot k ≡ Some r → i ≢ k
    → q.level < q.active → r.active ≢ q.level
