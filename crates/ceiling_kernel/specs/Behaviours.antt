-- What the jobs of a task may do: execute less than its cost, in another branch, without a section, or hold a lock for
-- less. That a bound stands all the same is what Burns and Baruah (2008) call sustainable.
use Rattle.std.specs.Prelude.{◌≡◌, ℕ, ◌+◌, ◌-◌, ◌<◌, ◌≤◌, ◌⊎◌, true, nat_lt, min, if◌then◌else◌, List, [], ◌∷◌, length}
use Rattle.task_sheet.specs.Sheet.{Task, CriticalSection}
use Rattle.task_sheet.specs.Locks.{names_lock}
use Rattle.ceiling_kernel.specs.Tick.{Node, Job, job_at, job_task}

-- a section of a sheet covers one that a job takes: this one holds no other locks, and is no longer; it may stand
-- anywhere
pub record Covers (declared taken : CriticalSection) : Type 0 where
  pub locks : (lock : List ℕ) → names_lock taken lock ≡ true → names_lock declared lock ≡ true
  pub no_longer : taken.len ≤ declared.len

-- some section of a sheet covers it
abbrev pub IsCovered : (declared : List CriticalSection) → CriticalSection → Type 0
IsCovered [] taken = ⊥
IsCovered (s ∷ ss) taken = Covers s taken ⊎ IsCovered ss taken

-- the sections of a job are covered, and stand one after the other: the first begins after `from` ticks of its own
-- execution or later, the last ends within what it executes; one of a sheet may cover several
abbrev pub AreTaken : (declared : List CriticalSection) → (from executes : ℕ) → List CriticalSection
    → Type 0
AreTaken declared from executes [] = from ≤ executes
AreTaken declared from executes (s ∷ ss) =
    (from ≤ s.at) × (0 < s.len) × IsCovered declared s
    × AreTaken declared (s.at + s.len) executes ss

-- a section lies within another: in its time, with some of its locks
pub record LiesWithin (span s : CriticalSection) : Type 0 where
  pub from : span.at ≤ s.at
  pub to : s.at + s.len ≤ span.at + span.len
  pub locks : (lock : List ℕ) → names_lock s lock ≡ true → names_lock span lock ≡ true

-- it lies within one of some spans
abbrev pub IsSpanned : (spans : List CriticalSection) → CriticalSection → Type 0
IsSpanned [] s = ⊥
IsSpanned (x ∷ xs) s = LiesWithin x s ⊎ IsSpanned xs s

-- each of these does
abbrev pub AreSpanned : (spans : List CriticalSection) → List CriticalSection → Type 0
AreSpanned spans [] = Unit {0}
AreSpanned spans (s ∷ ss) = IsSpanned spans s × AreSpanned spans ss

-- What a job does is within its task's sheet: it executes no more than the cost, and there are spans of its execution that
-- the sheet covers, within which its sections lie. Within a span they may be nested or overlap.
pub record IsWithinSheet (t : Task) (job : Job) : Type 0 where
  pub executes : job.executes ≤ t.cost
  pub spans : List CriticalSection
  pub taken : AreTaken t.sections 0 job.executes spans
  pub sections : AreSpanned spans job.sections

-- what each job does is within its task's sheet
abbrev pub AreWithinSheets : Node → List Job → Type 0
AreWithinSheets node jobs =
    (j : ℕ) → j < length jobs → IsWithinSheet (job_task node jobs j) (job_at jobs j)

-- ---- sections that are not nested
-- the sections stand in order and apart, from `begin` on and within what is executed
abbrev pub AreApart : ℕ → List CriticalSection → ℕ → Type 0
AreApart begin [] executes = begin ≤ executes
AreApart begin (s ∷ ss) executes =
    (begin ≤ s.at) × (0 < s.len) × AreApart (s.at + s.len) ss executes

-- each job takes its sections one after the other
abbrev pub TakeTurns : List Job → Type 0
TakeTurns jobs =
    (j : ℕ) → j < length jobs → AreApart 0 (job_at jobs j).sections (job_at jobs j).executes

-- ---- a job that ends early
-- the sections of a sheet, of which a job that executes so many ticks takes what lies before its end
abbrev pub cut_at : ℕ → List CriticalSection → List CriticalSection
cut_at e [] = []
cut_at e (s ∷ ss) =
    if nat_lt s.at e
    then record { locks = s.locks; at = s.at; len = min s.len (e - s.at) } ∷ cut_at e ss
    else cut_at e ss

-- a job does as its task's sheet says, up to its end
pub record IsCut (t : Task) (job : Job) : Type 0 where
  pub some : 0 < job.executes
  pub most : job.executes ≤ t.cost
  pub sections : job.sections ≡ cut_at job.executes t.sections

-- each job does
abbrev pub AreCut : Node → List Job → Type 0
AreCut node jobs = (j : ℕ) → j < length jobs → IsCut (job_task node jobs j) (job_at jobs j)

-- each job is of a task of the node
abbrev pub AreKnown : Node → List Job → Type 0
AreKnown node jobs = (j : ℕ) → j < length jobs → (job_at jobs j).task < length node.tasks
