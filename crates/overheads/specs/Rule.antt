-- The rule of a demand with what a node takes (Burns, Wellings), over the tasks as they are written: a job takes its whole
-- cost of those below its task, and of those above its timer alone.
use Rattle.std.specs.Prelude.{◌≡◌, ℕ, ◌+◌, ◌*◌, ◌<◌, ◌≤◌, ◌==◌, List, [], length, sum_by, All, None, IsFalse, if◌then◌else◌}
use Rattle.task_sheet.specs.declared.node.Node.{Node}
use Rattle.task_sheet.specs.declared.node.Interrupt.{Interrupt}
use Rattle.task_sheet.specs.Sheet.{Task, task_at}
use Rattle.task_sheet.specs.TaskSet.{IsTaskSet}
use Rattle.task_sheet.specs.Indexes.{Indexes, sum_below}
use Rattle.task_sheet.specs.Demand.{releases_within, interrupt_within, blocking_of, limit_of}
use Rattle.overheads.specs.Padding.{whole_cost, padded_task, padded, padding_fault, charged}

-- what a job of task k takes of a job of task i, with the tasks H above it
abbrev pub taken_of : Node → List Task → ℕ → Indexes → ℕ → ℕ
taken_of node U i H k =
    if H k then whole_cost node (task_at U k) else if k == i then 0 else node.release

-- the demand by the rule: the whole cost of a job, the blocking, what the jobs of all other tasks take, and each interrupt
abbrev pub demand_by_rule : Node → List Interrupt → List Task → ℕ → Indexes → ℕ → ℕ
demand_by_rule node xs U i H time =
    whole_cost node (task_at U i) + blocking_of (charged xs (padded node U)) i H
    + sum_below (length U) (λ k.
    releases_within (padded_task node (task_at U k)) time * taken_of node U i H k)
    + sum_by (interrupt_within time) xs

-- task i of a set that a node has room for, below the tasks H, in a window within its limit; a timer is a part of `job`
pub record IsRuled (node : Node) (U : List Task) (i : ℕ) (H : Indexes) (time : ℕ) : Type 0 where
  pub set : IsTaskSet U
  pub bare : All (λ t. t.interrupts ≡ []) U
  pub room : padding_fault node U ≡ None
  pub part : node.release ≤ node.job
  pub inside : i < length U
  pub below : IsFalse (H i)
  pub some : 1 ≤ time
  pub within : time ≤ limit_of (padded_task node (task_at U i))
