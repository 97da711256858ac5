use Rattle.std.proofs.Common.{arith}
use Rattle.task_sheet.specs.Indexes.{indexes_of}
use Rattle.response_time.proofs.AboveLaws.{demand-parts}
use Rattle.response_time.proofs.demand.Goals as goal

pub returns : goal.returns
returns c =
    let work = c.new.ensures.is c.args.time (omega arith) (omega arith) in
    omega (
      arith,
      c.advance-work.ensures.is,
      work,
      c.interrupts_within.ensures.is,
      demand-parts
          c.args.set.now c.args.task (indexes_of c.args.above) c.args.time,
    )
