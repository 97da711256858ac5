use Rattle.std.proofs.Common.{◌∙◌, ap}
use Rattle.task_sheet.specs.Locks.{uses}
use Rattle.lines.proofs.SetTasks.{task_got}
use Rattle.explain.proofs.text.uses.Goals as goal

pub returns-in-Some : goal.returns-in-Some
returns-in-Some c = c.sheet_uses.ensures
    ∙ ap (λ t. uses t c.args.lock) (task_got c.args.set.now c.args.task _ c.in-Some.ensures)

-- past the end of a set stands a task with no section
pub returns-in-None : goal.returns-in-None
returns-in-None c =
    ap (λ t. uses t c.args.lock) (task_got c.args.set.now c.args.task _ c.in-None.ensures)
