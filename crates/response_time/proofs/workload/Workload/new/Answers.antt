use Rattle.std.proofs.Common.{ap, sym, ◌∙◌, arith}
use Rattle.std.proofs.lemmas.List.{get_or_read}
use Rattle.task_sheet.proofs.Common.{no_task, indexes_of, interference_of}
use Rattle.task_sheet.proofs.TaskLaws.{task_read}
use Rattle.response_time.proofs.AboveLaws.{first-with, first-without, first-all}
use Rattle.response_time.proofs.workload.Workload.new.Goals as goal
use Rattle.response_time.proofs.workload.Workload.new.Goals.{then-has, else-has}

pub loop-index-preserved : goal.loop-index-preserved
loop-index-preserved c =
    let U = c.sheets-sheets.result.now in
    let n = c.loop-index.index in
    let inv = c.loop-index.invariant in
    elim c.if-has.branch [
      | then-has w ↦ record {
        start = rw w.work-is (w.add.ensures.time ∙ inv.start);
        few = rw w.work-is (omega (arith, w.add.ensures.room, inv.few));
        fits = rw w.work-is (omega (arith, w.add.ensures.fits, inv.fits));
        sum = λ time from to.
            let is = get_or_read U n c.index-sheets-index.result c.loop-index-test.true
            c.index-sheets-index.is no_task in
            let more = w.add.ensures.is time (omega (arith, inv.start, from)) to in
            let step =
            first-with U (indexes_of c.args.above) time n (sym c.has.ensures ∙ w.if-has.true) in
            rw w.work-is (omega (
              arith,
              inv.sum time from to,
              more,
              ap (λ t. interference_of t time)
                  is,
              step,
            ));
      }
      | else-has w ↦ record {
        start = rw w.work-is inv.start;
        few = rw w.work-is (omega (arith, inv.few));
        fits = rw w.work-is (omega (arith, inv.fits));
        sum = λ time from to.
            let step = first-without U (indexes_of c.args.above) time n
            (sym c.has.ensures ∙ w.if-has.false) in
            rw w.work-is (omega (arith, inv.sum time from to, step));
      }
    ]

pub returns-clause-is : goal.returns-clause-is
returns-clause-is c = λ time from to.
    let U = c.args.set.now in
    let items = c.sheets-sheets.result.now in
    let is = task_read U items c.args.task c.index-sheets-task.result c.sheets-sheets.ensures.same
    c.requires.task c.index-sheets-task.is in
    let all = first-all U items c.args.task (indexes_of c.args.above) time c.loop-index.index
    c.sheets-sheets.ensures.same (omega arith) in
    omega (
      arith,
      c.loop-index.invariant.sum time from to,
      all,
      c.blocking.ensures.is,
      c.cost.ensures,
      ap (λ t. t.cost) is,
    )
