use Rattle.std.proofs.Common.{subst}
use Rattle.ceiling_kernel.specs.Tick.{Node}
use Rattle.miss.specs.Going.{IsDoneLater}
use Rattle.miss.proofs.going.end_of.Goals as goal

pub returns : goal.returns
returns c = (
  c.in_ok-finish.finish,
  subst (λ (node : Node). IsDoneLater node c.args.miss.now c.in_ok-finish.finish)
      c.in_ok-kernel.ensures c.in_ok-finish.ensures,
  c.unwrap_or.ensures,
)
