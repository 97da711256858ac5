use Rattle.std.proofs.Common.{◌≤◌, ◌+◌, ◌∙◌, length, ap, sym, arith}
use Rattle.std.proofs.lemmas.List.{get_or_read}
use Rattle.task_sheet.proofs.Common.{no_task, indexes_of}
use Rattle.task_sheet.proofs.TaskLaws.{task_read, valid_at}
use Rattle.response_time.proofs.AboveLaws.{first-once, first-without, first-all, demand-parts}
use Rattle.response_time.proofs.least_demand.Goals as goal
use Rattle.response_time.proofs.least_demand.Goals.{then-has, else-has}

pub loop-index-init : goal.loop-index-init
loop-index-init c =
    let U = c.args.set.now in
    let is = task_read U c.sheets-sheets.result.now c.args.task c.index-sheets-task.result
    c.sheets-sheets.ensures.same c.requires c.index-sheets-task.is in
    let valid = valid_at U c.args.task c.sheets-sheets.ensures.kept c.requires in
    record {
      fits =
          omega (arith, c.cost-least.ensures, ap (λ t. t.cost) is, valid.cost_to, valid.period_to);
      sum = λ time some. omega arith;
    }

pub overflow_add-least : goal.overflow_add-least
overflow_add-least c =
    let U = c.args.set.now in
    let V = c.sheets-sheets.result.now in
    let n = c.loop-index.index in
    let lt : n + 1 ≤ length U =
    rw (sym c.sheets-sheets.ensures.same) (omega (arith, c.loop-index-test.true)) in
    let is = task_read U V n c.index-sheets-index.result c.sheets-sheets.ensures.same
    (omega (arith, lt)) c.index-sheets-index.is in
    let valid = valid_at U n c.sheets-sheets.ensures.kept (omega (arith, lt)) in
    omega (
      arith,
      c.loop-index.invariant.fits,
      lt,
      c.sheets-sheets.ensures.kept.few,
      c.cost-least-then-has.ensures,
      ap (λ t. t.cost) is,
      valid.cost_to,
      valid.period_to,
    )

pub loop-index-preserved : goal.loop-index-preserved
loop-index-preserved c =
    let U = c.sheets-sheets.result.now in
    let H = indexes_of c.args.above in
    let n = c.loop-index.index in
    let inv = c.loop-index.invariant in
    elim c.if-has.branch [
      | then-has w ↦
          let cost = ap (λ t. t.cost) (get_or_read U n c.index-sheets-index.result
          c.loop-index-test.true c.index-sheets-index.is no_task) in
          let valid = valid_at U n (rw c.sheets-sheets.ensures.same c.sheets-sheets.ensures.kept)
          c.loop-index-test.true in
          record {
            fits = omega (
              arith,
              inv.fits,
              w.least-is,
              w.cost-least-then-has.ensures,
              cost,
              valid.cost_to,
              valid.period_to,
            );
            sum = λ time some.
                let once = first-once U H time n valid (sym c.has.ensures ∙ w.if-has.true) some in
                omega (
                  arith,
                  inv.sum time some,
                  w.least-is,
                  w.cost-least-then-has.ensures,
                  cost,
                  once,
                );
          }
      | else-has w ↦ record {
        fits = omega (arith, inv.fits, w.least-is);
        sum = λ time some. omega (
          arith,
          inv.sum time some,
          w.least-is,
          first-without U H time n
              (sym c.has.ensures ∙ w.if-has.false),
        );
      }
    ]

pub returns : goal.returns
returns c = λ time some.
    let U = c.args.set.now in
    let items = c.sheets-sheets.result.now in
    let is = task_read U items c.args.task c.index-sheets-task.result c.sheets-sheets.ensures.same
    c.requires c.index-sheets-task.is in
    let all = first-all U items c.args.task (indexes_of c.args.above) time c.loop-index.index
    c.sheets-sheets.ensures.same (omega arith) in
    omega (
      arith,
      c.loop-index.invariant.sum time some,
      all,
      demand-parts U c.args.task
          (indexes_of c.args.above) time,
      c.cost-least.ensures,
      ap (λ t. t.cost) is,
    )
