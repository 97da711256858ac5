use Rattle.std.proofs.Common.{◌∙◌, ◌<◌, ◌≤◌, ap, arith}
use Rattle.task_sheet.proofs.Common.{Task, task_at, indexes_of, demand_of, limit_of}
use Rattle.task_sheet.proofs.DemandFits.{limit-fits, demand-fits}
use Rattle.task_sheet.proofs.TaskLaws.{task_read, valid_at}
use Rattle.explain.proofs.NeedLaws.{ends-step, full-two}
use Rattle.explain.proofs.needs.chain_account.Goals as goal

pub last_two-before-requires : goal.last_two-before-requires
last_two-before-requires c =
    let U = c.args.set.now in
    let i = c.args.task in
    let valid = valid_at U i c.sheets.ensures.kept c.requires.task in
    let some : 0 < limit_of (task_at U i) = omega (arith, valid.jitter) in
    full-two (demand_of U i (indexes_of c.args.above)) (limit_of (task_at U i)) c.args.chain.now
    some c.requires.chain

pub parts_of-requires-clause-time : goal.parts_of-requires-clause-time
parts_of-requires-clause-time c =
    let U = c.args.set.now in
    let i = c.args.task in
    let step = ends-step (demand_of U i (indexes_of c.args.above)) (limit_of (task_at U i))
    c.last_two-before.result.0 c.last_two-before.result.1 c.args.chain.now c.requires.chain
    c.last_two-before.ensures in
    omega (arith, step.within, limit-fits U c.sheets.ensures.kept i c.requires.task)

pub overflow_add-result : goal.overflow_add-result
overflow_add-result c =
    let U = c.args.set.now in
    let i = c.args.task in
    let H = indexes_of c.args.above in
    let step = ends-step (demand_of U i H) (limit_of (task_at U i)) c.last_two-before.result.0
    c.last_two-before.result.1 c.args.chain.now c.requires.chain c.last_two-before.ensures in
    let within : c.last_two-before.result.0 ≤ 10000000 =
    omega (arith, step.within, limit-fits U c.sheets.ensures.kept i c.requires.task) in
    let valid = valid_at U i c.sheets.ensures.kept c.requires.task in
    let read = task_read U c.sheets.result.now i c.index-sheets-task.result c.sheets.ensures.same
    c.requires.task c.index-sheets-task.is in
    let jitter = c.jitter.ensures ∙ ap (λ (t : Task). t.jitter) read in
    omega (
      arith,
      step.demanded,
      demand-fits U c.sheets.ensures.kept i H c.last_two-before.result.0
          c.requires.task within,
      valid.jitter,
      valid.deadline_to,
      valid.period_to,
      jitter,
    )
