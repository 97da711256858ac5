use Rattle.std.proofs.Common.{◌∙◌, ap}
use Rattle.task_sheet.specs.Overheads.{overhead_of}
use Rattle.lines.proofs.SetTasks.{task_got}
use Rattle.explain.proofs.text.overhead.Goals as goal

pub returns-in-Some : goal.returns-in-Some
returns-in-Some c =
    c.overhead.ensures ∙ ap overhead_of (task_got c.args.set.now c.args.task _ c.in-Some.ensures)

-- past the end of a set stands a task on a node that takes nothing
pub returns-in-None : goal.returns-in-None
returns-in-None c = ap overhead_of (task_got c.args.set.now c.args.task _ c.in-None.ensures)
