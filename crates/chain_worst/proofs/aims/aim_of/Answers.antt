use Rattle.std.proofs.Common.{◌<◌, arith}
use Rattle.ceiling_kernel.proofs.OrderLaws.{after_of-all}
use Rattle.chain_worst.proofs.aims.aim_of.Goals as goal

pub members_of-above-requires : goal.members_of-above-requires
members_of-above-requires c = rw c.above.ensures (after_of-all (λ k. k < 32) c.args.order.now c.args.task
    (λ k d lt. omega (arith, c.requires.within k d lt, c.sheets-sheets.ensures.kept.few)))
