use Rattle.std.proofs.Common.{ap, arith}
use Rattle.task_sheet.specs.Indexes.{indexes_of}
use Rattle.task_sheet.proofs.DemandFits.{cost-fits, blocking-fits}
use Rattle.task_sheet.proofs.TaskLaws.{task_read}
use Rattle.cert_checker.proofs.work.base_demand.Goals as goal

pub overflow_add-result : goal.overflow_add-result
overflow_add-result c =
    let U = c.args.set.now in
    let kept = c.sheets.ensures.kept in
    let is = task_read U c.sheets.result.now c.args.task c.index-sheets-task.result
    c.sheets.ensures.same c.requires c.index-sheets-task.is in
    omega (
      arith,
      c.blocking.ensures,
      blocking-fits U kept c.args.task (indexes_of c.args.above),
      c.cost.ensures,
      cost-fits U kept c.args.task c.requires,
      ap (λ t. t.cost) is,
    )

pub returns-clause-fits : goal.returns-clause-fits
returns-clause-fits c =
    let U = c.args.set.now in
    let kept = c.sheets.ensures.kept in
    let is = task_read U c.sheets.result.now c.args.task c.index-sheets-task.result
    c.sheets.ensures.same c.requires c.index-sheets-task.is in
    omega (
      arith,
      c.blocking.ensures,
      blocking-fits U kept c.args.task (indexes_of c.args.above),
      c.cost.ensures,
      cost-fits U kept c.args.task c.requires,
      ap (λ t. t.cost) is,
    )
