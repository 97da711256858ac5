use Rattle.std.proofs.Common.{◌<◌, arith}
use Rattle.task_sheet.specs.Indexes.{indexes_of}
use Rattle.assignment.proofs.OutcomeLaws.{none_over_all}
use Rattle.assignment.proofs.outcome.least_over.Goals as goal

pub returns-clause-none : goal.returns-clause-none
returns-clause-none c =
    let U = c.args.set.now in
    let row = c.outranked-outranked.ensures in
    none_over_all U c.args.task (indexes_of c.outranked-outranked.result)
    (indexes_of c.args.above) row
    (λ j lt. let before : j < c.loop-other.other = omega (
      arith,
      c.loop-other-test.false,
      c.len-other-end.ensures.count,
      lt,
    ) in c.loop-other.invariant j before)
