-- The numbers of a task, and for each the furthest value with which some order of its set passes.
use Rattle.std.specs.Prelude.{◌≡◌, ℕ, zero, suc, ◌+◌, ◌-◌, ◌<◌, ◌≤◌, max, min, List, [], ◌∷◌, length, slice_set, slice_index_or, Option, Some, None}
use Rattle.task_sheet.specs.Sheet.{CriticalSection, Task, with_jitter, IsValidSheet, task_at}
use Rattle.task_sheet.specs.Orders.{IsFeasible}
use Rattle.task_sheet.specs.declared.node.Interrupt.{Interrupt}
use Rattle.other_numbers.specs.Costs.{with_cost}
use Rattle.limits.specs.declared.number.Number.{Number}
use Rattle.limits.specs.declared.number.Number.TheVariants.{Cost, Period, Deadline, Jitter, Len, InterruptCost, InterruptPeriod}

-- stands past the end of a task's sections
abbrev pub no_section : CriticalSection
no_section = record { locks = []; at = 0; len = 0 }

-- the section at a place
abbrev pub section_at : List CriticalSection → ℕ → CriticalSection
section_at sections k = slice_index_or sections k no_section

-- the sections, the first so many of them with so much more and so much less before them
abbrev pub moved : ℕ → (more less : ℕ) → List CriticalSection → List CriticalSection
moved zero more less xs = xs
moved (suc along) more less [] = []
moved (suc along) more less (x ∷ xs) =
    record x { at = x.at + more - less } ∷ moved along more less xs

-- the sections, with another length of the one at place k, with which so many behind it move along
abbrev pub with_len : List CriticalSection → (k along len : ℕ) → List CriticalSection
with_len [] k along len = []
with_len (x ∷ xs) zero along len = record x { len = len } ∷ moved along len x.len xs
with_len (x ∷ xs) (suc k) along len = x ∷ with_len xs k along len

-- stands past the end of a task's interrupts
abbrev pub no_interrupt : Interrupt
no_interrupt = record { period = 0; cost = 0 }

-- the interrupt at a place
abbrev pub interrupt_at : List Interrupt → ℕ → Interrupt
interrupt_at xs k = slice_index_or xs k no_interrupt

-- the interrupts, with another cost of the one at a place
abbrev pub with_interrupt_cost : List Interrupt → ℕ → ℕ → List Interrupt
with_interrupt_cost xs k cost = slice_set xs k (record (interrupt_at xs k) { cost = cost })

-- and with another period
abbrev pub with_interrupt_period : List Interrupt → ℕ → ℕ → List Interrupt
with_interrupt_period xs k period = slice_set xs k (record (interrupt_at xs k) { period = period })

-- the task has such a number
abbrev pub HasNumber : Task → Number → Type 0
HasNumber t Cost = Unit {0}
HasNumber t Period = Unit {0}
HasNumber t Deadline = Unit {0}
HasNumber t Jitter = Unit {0}
HasNumber t (Len k along) = k + along < length t.sections
HasNumber t (InterruptCost k) = k < length t.interrupts
HasNumber t (InterruptPeriod k) = k < length t.interrupts

-- that number
abbrev pub value_of : Number → Task → ℕ
value_of Cost t = t.cost
value_of Period t = t.period
value_of Deadline t = t.deadline
value_of Jitter t = t.jitter
value_of (Len k along) t = (section_at t.sections k).len
value_of (InterruptCost k) t = (interrupt_at t.interrupts k).cost
value_of (InterruptPeriod k) t = (interrupt_at t.interrupts k).period

-- the task, with another value of it: a period that is shorter than the deadline takes it along, a deadline that is
-- later than the period takes that along
abbrev pub with_number : Number → Task → ℕ → Task
with_number Cost t value = with_cost t value
with_number Period t value = record t { period = value; deadline = min t.deadline value }
with_number Deadline t value = record t { period = max t.period value; deadline = value }
with_number Jitter t value = with_jitter t value
with_number (Len k along) t value = record t { sections = with_len t.sections k along value }
with_number (InterruptCost k) t value =
    record t { interrupts = with_interrupt_cost t.interrupts k value }
with_number (InterruptPeriod k) t value =
    record t { interrupts = with_interrupt_period t.interrupts k value }

-- a value that asks no more than the other: a cost, a jitter or a length that is no greater, a period or a deadline that
-- is no less
abbrev pub IsNoFurther : Number → ℕ → ℕ → Type 0
IsNoFurther Cost value other = value ≤ other
IsNoFurther Period value other = other ≤ value
IsNoFurther Deadline value other = other ≤ value
IsNoFurther Jitter value other = value ≤ other
IsNoFurther (Len k along) value other = value ≤ other
IsNoFurther (InterruptCost k) value other = value ≤ other
IsNoFurther (InterruptPeriod k) value other = other ≤ value

-- the set, with another value of a number of its task i
abbrev pub numbered : List Task → ℕ → Number → ℕ → List Task
numbered U i number value = slice_set U i (with_number number (task_at U i) value)

-- task i may have the value: its sheet is then still valid
abbrev pub MayHave : List Task → ℕ → Number → ℕ → Type 0
MayHave U i number value = IsValidSheet (with_number number (task_at U i) value)

-- the furthest value with which the set is feasible in some sense, all else equal
pub record IsFurthestFor (Feasible : List Task → Type 0) (U : List Task) (i : ℕ) (number : Number)
    (value : ℕ) : Type 0 where
  pub may : MayHave U i number value
  pub feasible : Feasible (numbered U i number value)
  pub furthest : (other : ℕ) → MayHave U i number other → Feasible (numbered U i number other)
      → IsNoFurther number other value

-- no value helps
abbrev pub NoneHelpsFor : (Feasible : List Task → Type 0) → List Task → ℕ → Number → Type 0
NoneHelpsFor Feasible U i number = (value : ℕ) → MayHave U i number value
    → ¬ Feasible (numbered U i number value)

-- the furthest value, or none where none helps
abbrev pub AnswersFor : (Feasible : List Task → Type 0) → List Task → ℕ → Number → Option ℕ → Type 0
AnswersFor Feasible U i number (Some value) = IsFurthestFor Feasible U i number value
AnswersFor Feasible U i number None = NoneHelpsFor Feasible U i number

-- the same where some order of the set passes
abbrev pub IsFurthest : List Task → ℕ → Number → ℕ → Type 0
IsFurthest U i number value = IsFurthestFor IsFeasible U i number value

abbrev pub NoneHelps : List Task → ℕ → Number → Type 0
NoneHelps U i number = NoneHelpsFor IsFeasible U i number

abbrev pub AnswersFurthest : List Task → ℕ → Number → Option ℕ → Type 0
AnswersFurthest U i number answer = AnswersFor IsFeasible U i number answer

-- the value that is so far from the easiest one
abbrev pub at_distance : Number → ℕ → ℕ → ℕ
at_distance Cost easiest far = easiest + far
at_distance Period easiest far = easiest - far
at_distance Deadline easiest far = easiest - far
at_distance Jitter easiest far = easiest + far
at_distance (Len k along) easiest far = easiest + far
at_distance (InterruptCost k) easiest far = easiest + far
at_distance (InterruptPeriod k) easiest far = easiest - far

-- how far a value is from the easiest one
abbrev pub distance : Number → (easiest value : ℕ) → ℕ
distance Cost easiest value = value - easiest
distance Period easiest value = easiest - value
distance Deadline easiest value = easiest - value
distance Jitter easiest value = value - easiest
distance (Len k along) easiest value = value - easiest
distance (InterruptCost k) easiest value = value - easiest
distance (InterruptPeriod k) easiest value = easiest - value

-- the values that a sheet may have are those from the easiest one on, up to this distance
pub record IsSpan (t : Task) (number : Number) (easiest length : ℕ) : Type 0 where
  pub may : (far : ℕ) → far ≤ length → IsValidSheet (with_number number t (at_distance number easiest far))
  pub all : (value : ℕ) → IsValidSheet (with_number number t value)
      → (far : ℕ) × (far ≤ length) × (value ≡ at_distance number easiest far)
  pub rises : (near far : ℕ) → near ≤ far
      → IsNoFurther number (at_distance number easiest near) (at_distance number easiest far)

-- another value of the number leaves the sections as they are
abbrev pub KeepsSections : Number → Type 0
KeepsSections Cost = Unit {0}
KeepsSections Period = Unit {0}
KeepsSections Deadline = Unit {0}
KeepsSections Jitter = Unit {0}
KeepsSections (Len k along) = ⊥
KeepsSections (InterruptCost k) = Unit {0}
KeepsSections (InterruptPeriod k) = Unit {0}
