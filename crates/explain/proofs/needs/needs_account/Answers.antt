use Rattle.std.proofs.Common.{arith}
use Rattle.task_sheet.proofs.Common.{task_at, past_jitter}
use Rattle.explain.proofs.needs.needs_account.Goals as goal

-- a response within the deadline covers its demand
pub unreachable-requires : goal.unreachable-requires
unreachable-requires c =
    let U = c.args.set.now in
    let i = c.args.task in
    let passes = rw c.in-Pass.is at c.in_ok-chain.ensures.answer in
    c.requires.fails (
      past_jitter (task_at U i) c.in-Pass.response,
      passes.0.positive,
      omega (arith, passes.1),
      omega (arith, passes.0.fixed),
    )
