use Rattle.std.proofs.Common.{◌≡◌, [], ap, sym, append-nil, string_bytes}
use Rattle.task_sheet.specs.Sheet.{Task, task_at}
use Rattle.lines.proofs.SetTasks.{task_got}
use Rattle.lines.proofs.naming.push_name.Goals as goal

-- past the end of a set stands a task with no name
pub returns-in-None : goal.returns-in-None
returns-in-None c =
    let nameless : [] ≡ (task_at c.args.set.now c.args.task).name =
    ap (λ (t : Task). t.name) (task_got c.args.set.now c.args.task _ c.in-None.ensures) in
    rw (sym nameless) (sym (append-nil (string_bytes c.args.text.now)))
