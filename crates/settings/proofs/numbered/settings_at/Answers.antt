use Rattle.std.proofs.Common.{length, arith}
use Rattle.ceiling_kernel.proofs.OrderLaws.{order_iff, order_length}
use Rattle.settings.proofs.numbered.settings_at.Goals as goal

pub push_mutexes_at-requires-clause-within : goal.push_mutexes_at-requires-clause-within
push_mutexes_at-requires-clause-within c = λ k d lt.
    let all = (order_iff (length c.args.set.now) c.args.order.now).1 c.requires.order in
    omega (arith, c.in_ok-table.ensures.few, all.0 k d lt)

pub push_mutexes_at-requires-clause-few : goal.push_mutexes_at-requires-clause-few
push_mutexes_at-requires-clause-few c = omega (
  arith,
  c.in_ok-table.ensures.few,
  order_length (length c.args.set.now) c.args.order.now c.requires.order,
)
