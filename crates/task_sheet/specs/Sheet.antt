-- What a task's sheet says, and which sheets are valid.
use Rattle.std.specs.Prelude.{◌≡◌, ℕ, ◌+◌, ◌<◌, ◌≤◌, Bool, true, false, not, ◌||◌, ◌&&◌, nat_eq, List, [], ◌∷◌, length, slice_index_or, All}
use Rattle.std.specs.List.{list_any}
use Rattle.std.specs.Cmp.Lexicographic.{pointwise}
use Rattle.task_sheet.specs.Name.{IsName}
use Rattle.task_sheet.specs.declared.node.Node.{Node}
use Rattle.task_sheet.specs.declared.node.Interrupt.{Interrupt}
use Rattle.task_sheet.specs.declared.node.TheConstants.{INTERRUPT_FROM, INTERRUPT_LIMIT}
use Rattle.task_sheet.specs.declared.sheet.TheConstants.{WEIGHT_LIMIT, PERIOD_FROM, PERIOD_TO, SECTION_LIMIT, LOCK_LIMIT, OUTRANKS_LIMIT}

-- a critical section: the locks that it holds, where it begins, and how long it is
pub record CriticalSection : Type 0 where
  pub locks : List (List ℕ)
  pub at : ℕ
  pub len : ℕ

-- above which other tasks of its set a task must stand: those of these names, or all but those that say this, too
pub data OutranksData : Type 0 where
  Named : (names : List (List ℕ)) → OutranksData
  AllOthers : OutranksData

-- a node that takes nothing
abbrev pub no_overhead : Node
no_overhead = record { job = 0; lock = 0; late = 0; release = 0 }

-- a task, as its sheet says; times in microseconds. What its node takes of it is in its numbers, but for its timer, and
-- the interrupts on its account, which no task asks for: these take of whoever executes
pub record Task : Type 0 where
  pub name : List ℕ
  pub weight : ℕ
  pub period : ℕ
  pub deadline : ℕ
  pub cost : ℕ
  pub sections : List CriticalSection
  pub jitter : ℕ
  pub outranks : OutranksData
  pub node : Node
  pub interrupts : List Interrupt

-- the task of these values, without jitter, which names no task above which it must stand, on a node that takes nothing
abbrev pub task_of : (name : List ℕ) (weight period deadline cost : ℕ)
    (sections : List CriticalSection) → Task
task_of name weight period deadline cost sections =
    record {
      name = name;
      weight = weight;
      period = period;
      deadline = deadline;
      cost = cost;
      sections = sections;
      jitter = 0;
      outranks = Named [];
      node = no_overhead;
      interrupts = [];
    }

-- the same task with this jitter
abbrev pub with_jitter : Task → ℕ → Task
with_jitter s jitter = record s { jitter = jitter }

-- the same task, which must stand above these
abbrev pub outranking : Task → OutranksData → Task
outranking s outranks = record s { outranks = outranks }

-- the same task with these sections
abbrev pub holding : Task → List CriticalSection → Task
holding s sections = record s { sections = sections }

-- the same task with this weight
abbrev pub weighing : Task → ℕ → Task
weighing s weight = record s { weight = weight }

-- the same task, of which this node takes what its numbers have in them
abbrev pub with_node : Task → Node → Task
with_node s node = record s { node = node }

-- the same task with these interrupts on its account
abbrev pub interrupted : Task → List Interrupt → Task
interrupted s interrupts = record s { interrupts = interrupts }

-- the bytes are the same, as a test
abbrev pub same_bytes : List ℕ → List ℕ → Bool
same_bytes = pointwise nat_eq

-- all others are said
abbrev pub is_all : OutranksData → Bool
is_all (Named names) = false
is_all AllOthers = true

-- the names that are said
abbrev pub names_said : OutranksData → List (List ℕ)
names_said (Named names) = names
names_said AllOthers = []

-- who says the first must stand above the task of a name that says the second
abbrev pub is_over : OutranksData → List ℕ → OutranksData → Bool
is_over (Named names) own said = list_any (λ name. same_bytes name own) names
is_over AllOthers own said = not (is_all said)

-- in a set the first task must stand above the second
abbrev pub outranks_task : Task → Task → Bool
outranks_task t other = is_over t.outranks other.name other.outranks

-- some name stands twice
abbrev pub repeats : List (List ℕ) → Bool
repeats [] = false
repeats (n ∷ ns) = list_any (λ m. same_bytes m n) ns || repeats ns

-- a section of 1 to 4 distinct locks that begins at `from` or after it, and ends within the cost
pub record IsSection (from cost : ℕ) (x : CriticalSection) : Type 0 where
  pub named : All IsName x.locks
  pub some : 0 < length x.locks
  pub few : length x.locks ≤ LOCK_LIMIT
  pub distinct : repeats x.locks ≡ false
  pub runs : 0 < x.len
  pub apart : from ≤ x.at
  pub within : x.at + x.len ≤ cost

-- the sections stand one after the other
abbrev pub AreSections : ℕ → ℕ → List CriticalSection → Type 0
AreSections from cost [] = Unit {0}
AreSections from cost (x ∷ xs) = IsSection from cost x × AreSections (x.at + x.len) cost xs

-- at most 8 distinct names of tasks above which a task must stand, none of them its own
pub record AreOutranked (own : List ℕ) (names : List (List ℕ)) : Type 0 where
  pub named : All IsName names
  pub few : length names ≤ OUTRANKS_LIMIT
  pub distinct : repeats names ≡ false
  pub others : list_any (λ n. same_bytes n own) names ≡ false

-- the task of a name may be one that must stand above these
abbrev pub MayOutrank : (own : List ℕ) → OutranksData → Type 0
MayOutrank own (Named names) = AreOutranked own names
MayOutrank own AllOthers = Unit {0}

-- what a node takes is within the limits
pub record AreOverheads (node : Node) : Type 0 where
  pub job : node.job ≤ PERIOD_TO
  pub lock : node.lock ≤ PERIOD_TO
  pub late : node.late ≤ PERIOD_TO
  pub release : node.release ≤ PERIOD_FROM

-- an interrupt that comes at most once a period, which isn't too short, and takes at most as long
pub record IsInterrupt (x : Interrupt) : Type 0 where
  pub period_from : INTERRUPT_FROM ≤ x.period
  pub period_to : x.period ≤ PERIOD_TO
  pub cost : x.cost ≤ x.period

-- at most 8 such interrupts
pub record AreInterrupts (xs : List Interrupt) : Type 0 where
  pub valid : All IsInterrupt xs
  pub few : length xs ≤ INTERRUPT_LIMIT

-- a valid sheet: its names are names, and its numbers and sections are within the limits
pub record IsValidSheet (s : Task) : Type 0 where
  pub named : IsName s.name
  pub weight : s.weight ≤ WEIGHT_LIMIT
  pub period_from : PERIOD_FROM ≤ s.period
  pub period_to : s.period ≤ PERIOD_TO
  pub deadline_from : 0 < s.deadline
  pub deadline_to : s.deadline ≤ s.period
  pub cost_from : 0 < s.cost
  pub cost_to : s.cost ≤ s.period
  pub few : length s.sections ≤ SECTION_LIMIT
  pub sections : AreSections 0 s.cost s.sections
  pub jitter : s.jitter < s.deadline
  pub outranked : MayOutrank s.name s.outranks
  pub overheads : AreOverheads s.node
  pub interrupts : AreInterrupts s.interrupts

-- the two sections say the same
abbrev pub same_section : CriticalSection → CriticalSection → Bool
same_section x y = pointwise same_bytes x.locks y.locks && (nat_eq x.at y.at && nat_eq x.len y.len)

-- the same names in their order, or both times all others
abbrev pub same_outranks : OutranksData → OutranksData → Bool
same_outranks (Named names) (Named others) = pointwise same_bytes names others
same_outranks (Named names) AllOthers = false
same_outranks AllOthers (Named others) = false
same_outranks AllOthers AllOthers = true

-- the same numbers
abbrev pub same_node : Node → Node → Bool
same_node x y =
    nat_eq x.job y.job && (nat_eq x.lock y.lock && (nat_eq x.late y.late && nat_eq x.release y.release))

abbrev pub same_interrupt : Interrupt → Interrupt → Bool
same_interrupt x y = nat_eq x.period y.period && nat_eq x.cost y.cost

-- what the laws of the analysis need of a task
pub record IsTask (t : Task) : Type 0 where
  pub period : 0 < t.period
  pub jitter : t.jitter < t.deadline
  pub cost : 0 < t.cost
  pub within : All (λ s. s.at + s.len ≤ t.cost) t.sections

-- each of the list is such a task
abbrev pub AllTasks : List Task → Type 0
AllTasks U = All IsTask U

-- stands past the end of a set
abbrev pub no_task : Task
no_task = task_of [] 0 1 0 0 []

-- the task at an index, which is its rank
abbrev pub task_at : List Task → ℕ → Task
task_at U k = slice_index_or U k no_task

-- the two sheets say the same
abbrev pub same_sheet : Task → Task → Bool
same_sheet x y =
    same_bytes x.name y.name
    && (nat_eq x.weight y.weight
    && (nat_eq x.period y.period
    && (nat_eq x.deadline y.deadline
    && (nat_eq x.cost y.cost
    && (nat_eq x.jitter y.jitter
    && (pointwise same_section x.sections y.sections
    && (same_outranks x.outranks y.outranks
    && (same_node x.node y.node && pointwise same_interrupt x.interrupts y.interrupts))))))))
