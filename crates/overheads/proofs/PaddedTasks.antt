-- Tasks with what the node takes: valid where there is room for it, and as they were where it takes nothing.
use Rattle.std.proofs.Common.{◌≡◌, ℕ, zero, suc, ◌+◌, ◌-◌, ◌*◌, ◌<◌, ◌≤◌, inl, inr, nat_lt}
use Rattle.std.proofs.Common.{List, Some, None, refl, sym, arith}
use Rattle.std.proofs.Math.Nat.{mul-le-mul_left}
use Rattle.std.proofs.lemmas.Bool.{cases_Bool, ltb-false, ltb-true, le-ltb, lt-ltb}
use Rattle.task_sheet.specs.Sheet.{CriticalSection, Task, AreInterrupts, AreOverheads, IsValidSheet}
use Rattle.task_sheet.specs.Sheet.{no_overhead}
use Rattle.task_sheet.specs.declared.node.Node.{Node}
use Rattle.task_sheet.specs.declared.node.Interrupt.{Interrupt}
use Rattle.overheads.specs.Padding.{padded_sections, padded_cost, whole_cost, padded_task}
use Rattle.overheads.specs.Padding.{task_fault, IsLighter}
use Rattle.overheads.specs.declared.padding.PadFault.TheVariants.{CostPastPeriod}
use Rattle.overheads.specs.declared.padding.PadFault.TheVariants.{JitterPastDeadline}
use Rattle.overheads.proofs.PaddedSections.{calls_in-mono, calls_in-none, sections-are}
use Rattle.overheads.proofs.PaddedSections.{count-sections, sections-none}

-- there is room for what the node takes of a task
pub record HasRoom (node : Node) (t : Task) : Type 0 where
  pub cost : whole_cost node t ≤ t.period
  pub jitter : t.jitter + node.late < t.deadline

pub room_of : (node : Node) (t : Task) → task_fault node t ≡ None → HasRoom node t
room_of node t e = elim (cases_Bool (nat_lt t.period (whole_cost node t))) [
  | inl past ↦ let never : Some (CostPastPeriod t.name) ≡ None = (rw past at e) in absurd (cc)
  | inr not ↦ elim (cases_Bool (nat_lt (t.jitter + node.late) t.deadline)) [
    | inl below ↦ record {
      cost = ltb-false t.period (whole_cost node t) not;
      jitter =
          ltb-true (t.jitter + node.late) t.deadline below;
    }
    | inr late ↦ let never : Some (JitterPastDeadline t.name) ≡ None = (rw (not, late) at e) in
        absurd (cc)
  ]
]

pub faultless : (node : Node) (t : Task) → whole_cost node t ≤ t.period
    → t.jitter + node.late < t.deadline → task_fault node t ≡ None
faultless node t cost jitter = rw (
  le-ltb t.period (whole_cost node t) cost,
  lt-ltb
      (t.jitter + node.late) t.deadline jitter,
) refl

pub valid-padded : (node : Node) (t : Task) → AreOverheads node → IsValidSheet t → whole_cost node t
    ≤ t.period → t.jitter + node.late < t.deadline → IsValidSheet (padded_task node t)
valid-padded node t limits valid cost jitter = record {
  named = valid.named;
  weight = valid.weight;
  period_from = valid.period_from;
  period_to = valid.period_to;
  deadline_from = valid.deadline_from;
  deadline_to = valid.deadline_to;
  cost_from = omega (arith, valid.cost_from);
  cost_to = omega (arith, cost);
  few = omega (arith, valid.few, count-sections node (node.job - node.release) t.sections);
  sections = sections-are node (node.job - node.release) 0 0 t.cost (padded_cost node t) t.sections
      valid.sections (omega arith) (omega arith);
  jitter = jitter;
  outranked = valid.outranked;
  overheads = limits;
  interrupts = valid.interrupts;
}

-- of another node, and with other interrupts on its account
pub valid-other : (t : Task) (node : Node) (xs : List Interrupt) → IsValidSheet t → AreOverheads
    node → AreInterrupts xs → IsValidSheet (record t { node = node; interrupts = xs })
valid-other t node xs valid limits few = record {
  named = valid.named;
  weight = valid.weight;
  period_from = valid.period_from;
  period_to = valid.period_to;
  deadline_from = valid.deadline_from;
  deadline_to = valid.deadline_to;
  cost_from = valid.cost_from;
  cost_to = valid.cost_to;
  few = valid.few;
  sections = valid.sections;
  jitter = valid.jitter;
  outranked = valid.outranked;
  overheads = limits;
  interrupts = few;
}

-- a sheet made with these numbers
pub valid-made : (node : Node) (t : Task) (cost jitter : ℕ) (sections : List CriticalSection)
    → AreOverheads node → IsValidSheet t → cost ≡ padded_cost node t → whole_cost node t ≤ t.period
    → jitter ≡ t.jitter + node.late → jitter < t.deadline
    → sections ≡ padded_sections node (node.job - node.release) t.sections
    → IsValidSheet (record t { cost = cost; sections = sections; jitter = jitter })
valid-made node t cost jitter sections limits valid is within late below are =
    let padded = valid-padded node t limits valid within (omega (arith, late, below)) in
    rw (is, late, are) (valid-other (padded_task node t) t.node t.interrupts padded valid.overheads
    valid.interrupts)

-- ---- less of it
pub whole-mono : (light heavy : Node) (t : Task) → IsLighter light heavy
    → whole_cost light t ≤ whole_cost heavy t
whole-mono light heavy t is = omega (arith, is.job, calls_in-mono light heavy t.sections is.lock)

-- a cost together with some timers, of which one is its own
pub cost-mono : (light heavy : Node) (t : Task) (count : ℕ) → IsLighter light heavy → 0 < count
    → padded_cost light t + count * light.release ≤ padded_cost heavy t + count * heavy.release
cost-mono light heavy t zero is some = absurd (omega (arith, some))
cost-mono light heavy t (suc others) is some =
    omega (
      arith,
      is.job,
      is.release,
      calls_in-mono light heavy t.sections is.lock,
      mul-le-mul_left
          others is.release,
    )

pub room-lighter : (light heavy : Node) (t : Task) → IsLighter light heavy
    → task_fault heavy t ≡ None → task_fault light t ≡ None
room-lighter light heavy t is none =
    let room = room_of heavy t none in
    faultless light t (omega (arith, whole-mono light heavy t is, room.cost))
    (omega (arith, is.late, room.jitter))

-- ---- nothing
cost-none : (t : Task) → padded_cost no_overhead t ≡ t.cost
cost-none t = omega (arith, calls_in-none t.sections)

pub task-none : (t : Task) → t.node ≡ no_overhead → padded_task no_overhead t ≡ t
task-none t none =
    let jitter : t.jitter + 0 ≡ t.jitter = omega arith in
    λ i. record t {
      cost = cost-none t i;
      sections = sections-none 0 t.sections refl i;
      jitter = jitter i;
      node = sym none i;
    }

pub room-none : (t : Task) → IsValidSheet t → task_fault no_overhead t ≡ None
room-none t valid = faultless no_overhead t (omega (arith, calls_in-none t.sections, valid.cost_to))
    (omega (arith, valid.jitter))
