-- What of a task's numbers is its node's, and what its own (Burns, Wellings).
use Rattle.std.specs.Prelude.{ℕ, ◌+◌, ◌-◌, ◌*◌, List, length, sum_by}
use Rattle.task_sheet.specs.declared.node.Node.{Node}
use Rattle.task_sheet.specs.Sheet.{CriticalSection, Task}

-- what the calls on a section's locks take
abbrev pub calls : Node → CriticalSection → ℕ
calls node x = node.lock * length x.locks

-- those on the locks of some sections
abbrev pub calls_in : Node → List CriticalSection → ℕ
calls_in node xs = sum_by (calls node) xs

-- what of its cost is the node's: what a job takes beside its own work, but for its timer, and the calls on its locks
abbrev pub overhead_of : Task → ℕ
overhead_of t = t.node.job - t.node.release + calls_in t.node t.sections

-- what a job executes at most of its own
abbrev pub own_cost : Task → ℕ
own_cost t = t.cost - overhead_of t
