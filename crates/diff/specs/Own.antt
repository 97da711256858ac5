-- What of a sheet's numbers is its task's own, without what its node takes (Burns, Wellings).
use Rattle.std.specs.Prelude.{ℕ, ◌+◌, ◌-◌, List, take}
use Rattle.task_sheet.specs.declared.node.Node.{Node}
use Rattle.task_sheet.specs.Sheet.{CriticalSection, Task}
use Rattle.task_sheet.specs.Overheads.{calls, calls_in}

-- how much later a section begins behind these: by what the node takes of a job, and by the calls on their locks
abbrev pub shift_behind : Node → List CriticalSection → ℕ
shift_behind node before = node.job - node.release + calls_in node before

-- where the section at a place begins
abbrev pub own_at : Task → ℕ → CriticalSection → ℕ
own_at t place x = x.at - shift_behind t.node (take place t.sections)

-- how long it is
abbrev pub own_len : Task → CriticalSection → ℕ
own_len t x = x.len - calls t.node x

-- how long after its arrival a job may become ready
abbrev pub own_jitter : Task → ℕ
own_jitter t = t.jitter - t.node.late
