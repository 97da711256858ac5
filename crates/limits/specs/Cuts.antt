-- Sets in which no section of a lock takes more of its own than this, and the most that it may be for an order to pass.
use Rattle.std.specs.Prelude.{ℕ, ◌+◌, ◌-◌, ◌≤◌, Bool, false, min, List, [], ◌∷◌, map, Option, Some, None, if◌then◌else◌}
use Rattle.task_sheet.specs.declared.node.Node.{Node}
use Rattle.task_sheet.specs.Sheet.{CriticalSection, Task}
use Rattle.task_sheet.specs.Locks.{names_lock}
use Rattle.task_sheet.specs.Overheads.{calls}
use Rattle.task_sheet.specs.Demand.{greatest_of}
use Rattle.limits.specs.InOrder.{PassesIn}

-- whether the section at a place of the task of a name begins where the one before it ends, and so moves along with that
abbrev pub Following : Type 0
Following = List ℕ → ℕ → Bool

-- no section does
abbrev pub none_follows : Following
none_follows name place = false

-- ---- how long the sections of a lock are
-- what a section of the lock takes of its own, without the calls on its locks; 0 of another one
abbrev pub len_on : List ℕ → Node → CriticalSection → ℕ
len_on lock node x = if names_lock x lock then x.len - calls node x else 0

-- the longest of a task; 0 of none
abbrev pub longest_in : List ℕ → Task → ℕ
longest_in lock t = greatest_of (len_on lock t.node) t.sections

-- and of a set
abbrev pub longest_on : List ℕ → List Task → ℕ
longest_on lock U = greatest_of (longest_in lock) U

-- ---- shorter ones
-- the length of a section, of the lock at most this and the calls on its locks
abbrev pub cut_len : List ℕ → (most : ℕ) → Node → CriticalSection → ℕ
cut_len lock most node x = if names_lock x lock then min x.len (most + calls node x) else x.len

-- sections, of which the first stands at a place, each so; one that follows begins so much earlier, too
abbrev pub cut_sections : (ℕ → Bool) → List ℕ → (most : ℕ) → Node → (place less : ℕ)
    → List CriticalSection → List CriticalSection
cut_sections follows lock most node place less [] = []
cut_sections follows lock most node place less (x ∷ xs) =
    let before = if follows place then less else 0 in
    let len = cut_len lock most node x in
    record { locks = x.locks; at = x.at - before; len = len }
    ∷ cut_sections follows lock most node (place + 1) (before + (x.len - len)) xs

-- the task, each of its sections so
abbrev pub cut_task : Following → List ℕ → (most : ℕ) → Task → Task
cut_task follows lock most t =
    record t { sections = cut_sections (follows t.name) lock most t.node 0 0 t.sections }

-- the set in which each section of the lock takes of its own what it does, or this where that is less
abbrev pub cut : Following → List ℕ → (most : ℕ) → List Task → List Task
cut follows lock most U = map (cut_task follows lock most) U

-- ---- the most
-- the most that each section of the lock may take for the order to pass, or some order where none is given, up to what the
-- longest takes
pub record IsMostOn (follows : Following) (U : List Task) (lock : List ℕ) (order : Option (List ℕ))
    (most : ℕ) : Type 0 where
  pub some : 1 ≤ most
  pub within : most ≤ longest_on lock U
  pub passes : PassesIn order (cut follows lock most U)
  pub furthest : (other : ℕ) → other ≤ longest_on lock U → PassesIn order (cut follows lock other U)
      → other ≤ most

-- that, or none where nothing that leaves each section something helps
abbrev pub AnswersMostOn : Following → List Task → List ℕ → Option (List ℕ) → Option ℕ → Type 0
AnswersMostOn follows U lock order (Some most) = IsMostOn follows U lock order most
AnswersMostOn follows U lock order None =
    (most : ℕ) → 1 ≤ most → ¬ PassesIn order (cut follows lock most U)
