use Rattle.std.proofs.Common.{sym, subst, arith}
use Rattle.limits.specs.Numbers.{MayHave, numbered}
use Rattle.limits.proofs.SpanLaws.{at-start}
use Rattle.chain_limits.specs.Reaches.{IsMetIn}
use Rattle.chain_limits.proofs.ReachLaws.{none-further, none-passing}
use Rattle.chain_limits.proofs.reaches.reach_in_order.Goals as goal

pub stands_with-requires-clause-may : goal.stands_with-requires-clause-may
stands_with-requires-clause-may c =
    subst (λ v. MayHave c.args.set.now c.args.task c.args.number v)
    (at-start c.args.number c.span_in-span.result.easiest)
    (c.span_in-span.ensures.span.may 0 (omega arith))

pub returns-in-Fails : goal.returns-in-Fails
returns-in-Fails c =
    none-passing c.args.writes c.args.offsets.now c.args.order.now c.args.tasks.now c.args.limit c.args.set.now c.args.task c.args.number
    c.span_in-span.ensures.kept c.requires.task c.requires.grows c.span_in-span.result.easiest
    c.span_in-span.result.length c.span_in-span.ensures.span
    (rw c.in-Fails.is at c.in_ok-stands_with.ensures)

pub returns-in-Misses : goal.returns-in-Misses
returns-in-Misses c =
    none-further c.args.writes c.args.offsets.now c.args.order.now c.args.tasks.now c.args.limit c.args.set.now c.args.task c.args.number
    c.span_in-span.ensures.kept c.requires.task c.requires.grows c.span_in-span.result.easiest
    c.span_in-span.result.length c.span_in-span.ensures.span
    (rw c.in-Misses.is at c.in_ok-stands_with.ensures).1

pub reach_past-requires-clause-met : goal.reach_past-requires-clause-met
reach_past-requires-clause-met c =
    subst
    (λ v. IsMetIn c.args.writes c.args.offsets.now c.args.order.now c.args.tasks.now c.args.limit (numbered c.args.set.now c.args.task c.args.number v))
    (sym (at-start c.args.number c.span_in-span.result.easiest))
    (rw c.in-Meets.is at c.in_ok-stands_with.ensures)
