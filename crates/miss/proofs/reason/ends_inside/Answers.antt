use Rattle.std.proofs.Common.{◌≡◌, ◌-◌, sym, arith}
use Rattle.task_sheet.proofs.TaskLaws.{task_read}
use Rattle.miss.proofs.reason.ends_inside.Goals as goal

pub returns : goal.returns
returns c =
    let read = task_read c.args.set.now c.sheets.result.now c.args.task c.index-sheets-task.result
    c.sheets.ensures.same c.requires c.index-sheets-task.is in
    let last : c.saturating_sub-last.result ≡ c.index-sheets-task.result.cost - 1 =
    omega (arith, c.cost.ensures, c.saturating_sub-last.ensures) in
    rw (sym read) (rw (sym c.sections.ensures, sym last) c.is_raised_in.ensures)
