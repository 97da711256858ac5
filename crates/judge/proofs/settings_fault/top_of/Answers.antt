use Rattle.std.proofs.Common.{◌≡◌, ◌∙◌, ◌<◌, List, length, cond, max, sym, ap, arith}
use Rattle.task_sheet.proofs.Common.{Task, task_at, uses}
use Rattle.task_sheet.proofs.Below.{ord_max-is}
use Rattle.task_sheet.proofs.TaskLaws.{task_read}
use Rattle.judge.specs.SettingFaults.{thread_number, setting_number}
use Rattle.judge.proofs.FaultLaws.{top_step}
use Rattle.judge.proofs.settings_fault.top_of.Goals as goal
use Rattle.judge.proofs.settings_fault.top_of.Goals.{then-has, else-has}

pub loop-task-preserved : goal.loop-task-preserved
loop-task-preserved c =
    let U = c.args.set.now in
    let k = c.loop-task.task in
    let threads = c.args.threads.now in
    let within : k < length U = omega (
      arith,
      c.loop-task-test.true,
      ap (λ (xs : List Task). length xs) c.sheets-sheet-items.ensures.same,
    ) in
    let sheet = task_read U c.sheets-sheet-items.result.now k c.sheet-item.result
    c.sheets-sheet-items.ensures.same within c.sheet-item.is in
    let used : c.has.result ≡ uses (task_at U k) c.args.lock = c.has.ensures
    ∙ c.users-users.ensures k in
    let next : c.if-has.top ≡ cond c.has.result (max c.loop-task.top (thread_number U threads k))
    c.loop-task.top = elim c.if-has.branch [
      | then-has w ↦
          let number : w.number_of.result ≡ thread_number U threads k = w.number_of.ensures
          ∙ ap (λ name. setting_number threads name)
          (w.name.ensures.same ∙ ap (λ (t : Task). t.name) sheet) in
          rw (w.if-has.true) (omega (arith, w.top-is, w.max-top.ensures, ord_max-is, number))
      | else-has w ↦ rw (w.if-has.false) w.top-is
    ] in
    top_step (λ j. cond (uses (task_at U j) c.args.lock) (thread_number U threads j) 0) k
    c.loop-task.top c.if-has.top (thread_number U threads k) c.has.result
    c.loop-task.invariant (ap (λ b. cond b (thread_number U threads k) 0) (sym used)) next
