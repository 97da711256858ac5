use Rattle.std.proofs.Common.{sym, ◌∙◌}
use Rattle.std.proofs.lemmas.Bool.{true≢false}
use Rattle.ceiling_kernel.proofs.OrderLaws.{order_iff}
use Rattle.ceiling_kernel.proofs.levels.is_order.Goals as goal

pub returns-then-are_below : goal.returns-then-are_below
returns-then-are_below c =
    let iff = order_iff c.args.count c.args.order.now in (
      λ e. iff.0 (c.are_below.ensures.0 c.if-are_below.true, c.are_once.ensures.0 e),
      λ h.
          c.are_once.ensures.1 ((iff.1 h).1),
    )

pub returns-else-are_below : goal.returns-else-are_below
returns-else-are_below c =
    let iff = order_iff c.args.count c.args.order.now in (
      λ e. absurd (true≢false (sym e ∙ c.if-are_below.false)),
      λ h. c.are_below.ensures.1
          ((iff.1 h).0),
    )
