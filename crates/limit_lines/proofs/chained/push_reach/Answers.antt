use Rattle.std.proofs.Common.{◌+◌, ◌<◌, length, subst, arith}
use Rattle.task_sheet.specs.Sheet.{task_at}
use Rattle.task_sheet.proofs.TaskLaws.{valid_at}
use Rattle.limits.specs.Numbers.{HasNumber}
use Rattle.limit_lines.proofs.chained.push_reach.Goals as goal

pub push_label-requires : goal.push_label-requires
push_label-requires c = λ place along is.
    let t = task_at c.args.set.now c.args.task in
    let inside : place + along < length t.sections =
    subst (λ n. HasNumber t n) is c.requires.has in
    omega (
      arith,
      inside,
      (valid_at c.args.set.now c.args.task c.sheets.ensures.kept c.requires.task).few,
    )
