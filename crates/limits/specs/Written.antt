-- A set as its documents say it: without what the node takes of its tasks, which their numbers have in them.
use Rattle.std.specs.Prelude.{ℕ, ◌+◌, ◌-◌, List, [], ◌∷◌, map}
use Rattle.task_sheet.specs.declared.node.Node.{Node}
use Rattle.task_sheet.specs.Sheet.{CriticalSection, Task, no_overhead}
use Rattle.task_sheet.specs.Overheads.{calls, overhead_of}

-- a section without its own calls and with so much less before it
abbrev pub written_section : Node → (before : ℕ) → CriticalSection → CriticalSection
written_section node before x =
    record { locks = x.locks; at = x.at - before; len = x.len - calls node x }

-- sections so, each with less by the calls of those before it, too
abbrev pub written_sections : Node → (before : ℕ) → List CriticalSection → List CriticalSection
written_sections node before [] = []
written_sections node before (x ∷ xs) =
    written_section node before x ∷ written_sections node (before + calls node x) xs

-- a task without what its node takes of it; interrupts stay on its account
abbrev pub written_task : Task → Task
written_task t =
    record t {
      cost = t.cost - overhead_of t;
      sections = written_sections t.node (t.node.job - t.node.release) t.sections;
      jitter = t.jitter - t.node.late;
      node = no_overhead;
    }

-- each task of a set so
abbrev pub written : List Task → List Task
written U = map written_task U

-- the node of a set: that of its first task
abbrev pub node_of : List Task → Node
node_of [] = no_overhead
node_of (t ∷ ts) = t.node
