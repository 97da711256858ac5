-- The numbers of what a node takes, and for each the furthest with which an order of the set passes.
use Rattle.std.specs.Prelude.{◌≡◌, ℕ, ◌≤◌, List, Option, Some, None}
use Rattle.task_sheet.specs.declared.node.Node.{Node}
use Rattle.task_sheet.specs.declared.sheet.TheConstants.{PERIOD_FROM, PERIOD_TO}
use Rattle.task_sheet.specs.Sheet.{Task, AreOverheads}
use Rattle.overheads.specs.Padding.{padded, padding_fault}
use Rattle.limits.specs.InOrder.{PassesIn}
use Rattle.limits.specs.declared.shared.Shared.{Shared}
use Rattle.limits.specs.declared.shared.Shared.TheVariants.{Job, Lock, Release, Late}

-- a number of a node
abbrev pub shared_of : Shared → Node → ℕ
shared_of Job node = node.job
shared_of Lock node = node.lock
shared_of Release node = node.release
shared_of Late node = node.late

-- the node, with another value of it
abbrev pub with_shared : Shared → Node → ℕ → Node
with_shared Job node value = record node { job = value }
with_shared Lock node value = record node { lock = value }
with_shared Release node value = record node { release = value }
with_shared Late node value = record node { late = value }

-- the least value that it may have beside the others: a timer is a part of a job
abbrev pub least_shared : Shared → Node → ℕ
least_shared Job node = node.release
least_shared Lock node = 0
least_shared Release node = 0
least_shared Late node = 0

-- and the greatest that any node may have
abbrev pub most_shared : Shared → ℕ
most_shared Job = PERIOD_TO
most_shared Lock = PERIOD_TO
most_shared Release = PERIOD_FROM
most_shared Late = PERIOD_TO

-- a document may say the node: it is within the limits, and a timer is a part of a job
pub record IsNode (node : Node) : Type 0 where
  pub limits : AreOverheads node
  pub part : node.release ≤ node.job

-- it may, and there is room for what the node takes of the tasks
pub record MayTake (W : List Task) (node : Node) : Type 0 where
  pub said : IsNode node
  pub room : padding_fault node W ≡ None

-- the furthest value with which the order passes, all else equal, of tasks as they are written
pub record IsFurthestShared (W : List Task) (node : Node) (number : Shared) (order : Option (List ℕ))
    (value : ℕ) : Type 0 where
  pub may : MayTake W (with_shared number node value)
  pub passes : PassesIn order (padded (with_shared number node value) W)
  pub furthest : (other : ℕ) → MayTake W (with_shared number node other)
      → PassesIn order (padded (with_shared number node other) W) → other ≤ value

-- the furthest value, or none where none helps
abbrev pub AnswersShared : List Task → Node → Shared → Option (List ℕ) → Option ℕ → Type 0
AnswersShared W node number order (Some value) = IsFurthestShared W node number order value
AnswersShared W node number order None =
    (value : ℕ) → MayTake W (with_shared number node value)
    → ¬ PassesIn order (padded (with_shared number node value) W)
