use Rattle.std.proofs.Common.{subst}
use Rattle.task_sheet.proofs.TaskLaws.{task_read}
use Rattle.limits.specs.Numbers.{IsSpan}
use Rattle.limits.proofs.spans.span_in.Goals as goal

pub returns-clause-span : goal.returns-clause-span
returns-clause-span c =
    let read = task_read c.args.set.now c.sheets.result.now c.args.task c.index-sheets-task.result
    c.sheets.ensures.same c.requires.task c.index-sheets-task.is in
    subst (λ t. IsSpan t c.args.number c.span_of.result.easiest c.span_of.result.length) read
    c.span_of.ensures.span
