-- A set with what the node itself takes beside the tasks' own work (Burns, Wellings; lateness as jitter Audsley et al.
-- 1993): of each job `job`, of each lock of each section `lock`; and each job becomes ready up to `late` later. Of `job`
-- the part `release` isn't in a cost: a timer takes it of whoever executes, and the demand counts it.
use Rattle.std.specs.Prelude.{◌≡◌, ℕ, ◌+◌, ◌-◌, ◌≤◌, nat_lt, List, [], ◌∷◌, map, All, Option, Some, None, if◌then◌else◌}
use Rattle.std.specs.Option.{option_or}
use Rattle.task_sheet.specs.Sheet.{CriticalSection, Task, no_overhead, interrupted}
use Rattle.task_sheet.specs.Overheads.{calls, calls_in}
use Rattle.task_sheet.specs.declared.node.Node.{Node}
use Rattle.task_sheet.specs.declared.node.Interrupt.{Interrupt}
use Rattle.overheads.specs.declared.padding.PadFault.{PadFault}
use Rattle.overheads.specs.declared.padding.PadFault.TheVariants.{CostPastPeriod, JitterPastDeadline}

-- a section, its own calls in it, and so much before it
abbrev pub padded_section : (node : Node) (before : ℕ) → CriticalSection → CriticalSection
padded_section node before x =
    record { locks = x.locks; at = x.at + before; len = x.len + calls node x }

-- sections, each with the calls of those before it, too
abbrev pub padded_sections : (node : Node) (before : ℕ) → List CriticalSection
    → List CriticalSection
padded_sections node before [] = []
padded_sections node before (x ∷ xs) =
    padded_section node before x ∷ padded_sections node (before + calls node x) xs

-- a task's cost, with what the node takes of a job but for its timer
abbrev pub padded_cost : Node → Task → ℕ
padded_cost node t = t.cost + (node.job - node.release) + calls_in node t.sections

-- the same with its timer
abbrev pub whole_cost : Node → Task → ℕ
whole_cost node t = t.cost + node.job + calls_in node t.sections

-- a task with what the node takes of it
abbrev pub padded_task : Node → Task → Task
padded_task node t =
    record t {
      cost = padded_cost node t;
      sections = padded_sections node (node.job - node.release) t.sections;
      jitter = t.jitter + node.late;
      node = node;
    }

-- the set with what a node takes
abbrev pub padded : Node → List Task → List Task
padded node U = map (padded_task node) U

-- for what a node takes of a task there is no room: the cost is past the period, or the jitter not below the deadline
abbrev pub task_fault : Node → Task → Option PadFault
task_fault node t =
    if nat_lt t.period (whole_cost node t) then Some (CostPastPeriod t.name)
    else
    (if nat_lt (t.jitter + node.late) t.deadline then None else Some (JitterPastDeadline t.name))

-- the first task of which that is so
abbrev pub padding_fault : Node → List Task → Option PadFault
padding_fault node [] = None
padding_fault node (t ∷ ts) = option_or (task_fault node t) (padding_fault node ts)

-- the same where there may be no node
abbrev pub padded_by : Option Node → List Task → List Task
padded_by None U = U
padded_by (Some node) U = padded node U

abbrev pub fault_by : Option Node → List Task → Option PadFault
fault_by None U = None
fault_by (Some node) U = padding_fault node U

-- the set with these interrupts, where there are some, on the account of its first task by rank
abbrev pub charged : List Interrupt → List Task → List Task
charged [] U = U
charged (x ∷ xs) [] = []
charged (x ∷ xs) (t ∷ ts) = interrupted t (x ∷ xs) ∷ ts

-- the set with what the node takes, where there is one, for which it has room, and with these interrupts
abbrev pub IsPadded : Option Node → List Interrupt → List Task → List Task → Type 0
IsPadded said xs U V = (fault_by said U ≡ None) × (V ≡ charged xs (padded_by said U))

-- no task's numbers have what a node takes in them yet
abbrev pub IsUnpadded : List Task → Type 0
IsUnpadded U = All (λ t. t.node ≡ no_overhead) U

-- a node takes no more than another one
pub record IsLighter (light heavy : Node) : Type 0 where
  pub job : light.job ≤ heavy.job
  pub lock : light.lock ≤ heavy.lock
  pub release : light.release ≤ heavy.release
  pub late : light.late ≤ heavy.late
