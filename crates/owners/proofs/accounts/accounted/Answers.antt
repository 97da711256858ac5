use Rattle.std.proofs.Common.{arith}
use Rattle.task_sheet.specs.Sheet.{AreInterrupts}
use Rattle.owners.proofs.AccountLaws.{own_limits}
use Rattle.owners.proofs.accounts.accounted.Goals as goal

pub interrupted-requires : goal.interrupted-requires
interrupted-requires c =
    let are : AreInterrupts c.in_ok-said.said.items = record {
      valid = c.in_ok-said.ensures.valid;
      few = omega (arith, c.if-len-gt-INTERRUPT_LIMIT.false, c.len.ensures);
    } in
    record {
      limits = rw (c.in_ok-own.ensures, c.deref.ensures.value)
          (own_limits c.args.owners.now c.args.sheets.now c.loop-task.task c.in_ok-said.said.items are);
    }
