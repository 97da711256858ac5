use Rattle.std.proofs.Common.{drop, arith}
use Rattle.chain_worst.proofs.AimLaws.{end_late}
use Rattle.chain_worst.proofs.aims.end_of.Goals as goal

pub returns-then-end : goal.returns-then-end
returns-then-end c = omega (
  arith,
  c.if-end.true,
  c.loop-step.invariant,
  end_late (drop c.loop-step.step-index c.args.steps.now) c.loop-step.end,
)
