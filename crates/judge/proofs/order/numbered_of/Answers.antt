use Rattle.std.proofs.Common.{◌≡◌, ◌<◌, ◌∙◌, List, length, ap, arith}
use Rattle.task_sheet.specs.Sheet.{Task, task_at}
use Rattle.task_sheet.proofs.TaskLaws.{task_read}
use Rattle.judge.proofs.NumberLaws.{numbered_step}
use Rattle.judge.proofs.order.numbered_of.Goals as goal

pub loop-task-preserved : goal.loop-task-preserved
loop-task-preserved c =
    let U = c.args.set.now in
    let k = c.loop-task.task in
    let within : k < length U = omega (
      arith,
      c.loop-task-test.true,
      ap (λ (xs : List Task). length xs) c.sheets-sheets.ensures.same,
    ) in
    let sheet = task_read U c.sheets-sheets.result.now k c.index-sheets-task.result
    c.sheets-sheets.ensures.same within c.index-sheets-task.is in
    let name : c.name.result ≡ (task_at U k).name = c.name.ensures.same
    ∙ ap (λ (t : Task). t.name) sheet in
    let step = numbered_step U c.args.threads.now k c.loop-task.numbered.items
    c.push_numbered.new.numbered.items c.name.result within name c.loop-task.invariant.tasks
    c.loop-task.invariant.numbers c.in_ok-push_numbered.ensures in
    record { tasks = step.0; numbers = step.1 }
