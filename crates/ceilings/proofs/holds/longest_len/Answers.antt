use Rattle.std.proofs.Common.{arith, cond, ap}
use Rattle.task_sheet.proofs.Below.{cond-le, ord_max-is}
use Rattle.ceilings.specs.Holds.{HoldData, is_reached}
use Rattle.ceilings.proofs.HoldLaws.{greatest-more}
use Rattle.ceilings.proofs.holds.longest_len.Goals as goal

pub loop-hold-preserved : goal.loop-hold-preserved
loop-hold-preserved c = λ members.
    let hold = c.hold-item.result in
    omega (
      arith,
      greatest-more (λ (h : HoldData). cond (is_reached members h) h.len 0) c.args.holds.now
          c.loop-hold.hold-index hold c.loop-hold-test.true c.hold-item.is,
      c.loop-hold.invariant members,
      cond-le (is_reached members hold) hold.len 0 hold.len (omega arith) (omega arith),
      c.max-longest.ensures,
      ord_max-is,
      ap (λ (h : HoldData). h.len) c.hold.view_is,
    )
