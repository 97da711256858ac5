-- Orders in which, from the lowest level up, of the tasks that need not stand above another that is left the one of the
-- longest limit is placed: deadline-minus-jitter monotonic orders (Leung, Whitehead 1982; Zuhily, Burns 2007).
use Rattle.std.specs.Prelude.{◌≡◌, ℕ, ◌<◌, ◌≤◌, List, [], ◌∷◌, length, All, IsTrue, IsFalse}
use Rattle.task_sheet.specs.Sheet.{Task, task_at}
use Rattle.task_sheet.specs.Indexes.{Indexes, without_index, among}
use Rattle.task_sheet.specs.Demand.{limit_of}
use Rattle.task_sheet.specs.Orders.{must_outrank_any}

-- what these laws need of a task: a job has to be done before the next one of its task arrives
pub record IsPrompt (t : Task) : Type 0 where
  pub period : 0 < t.period
  pub deadline : t.deadline ≤ t.period

-- each of the list is such a task
abbrev pub AllPrompt : List Task → Type 0
AllPrompt U = All IsPrompt U

-- task i is one of L, and need not stand above another of them
abbrev pub IsFree : List Task → Indexes → ℕ → Type 0
IsFree U L i = IsTrue (L i) × IsFalse (must_outrank_any U i (without_index L i))

-- of such tasks one with the longest limit
pub record IsLatest (U : List Task) (L : Indexes) (i : ℕ) : Type 0 where
  pub free : IsFree U L i
  pub latest : (j : ℕ) → IsFree U L j → limit_of (task_at U j) ≤ limit_of (task_at U i)

-- of these the first
pub record IsFirstLatest (U : List Task) (L : Indexes) (i : ℕ) : Type 0 where
  pub latest : IsLatest U L i
  pub first : (j : ℕ) → j < i → IsFree U L j → limit_of (task_at U j) < limit_of (task_at U i)

-- each is one with the longest limit of itself and those after it
abbrev pub IsLatestFirst : List Task → List ℕ → Type 0
IsLatestFirst U [] = Unit {0}
IsLatestFirst U (i ∷ above) = IsLatest U (among (i ∷ above)) i × IsLatestFirst U above

-- as many tasks, index by index of the same limit, the same name and the same names to outrank; they may differ in all
-- else: costs, sections, periods
pub record AreAlike (U V : List Task) : Type 0 where
  pub count : length V ≡ length U
  pub limits : (k : ℕ) → limit_of (task_at V k) ≡ limit_of (task_at U k)
  pub names : (k : ℕ) → (task_at V k).name ≡ (task_at U k).name
  pub outranks : (k : ℕ) → (task_at V k).outranks ≡ (task_at U k).outranks

-- no task has a longer limit than one of less rank
abbrev pub FollowLimits : List Task → Type 0
FollowLimits V = (i j : ℕ) → i < j → j < length V
    → limit_of (task_at V j) ≤ limit_of (task_at V i)
