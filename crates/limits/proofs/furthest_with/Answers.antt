use Rattle.std.proofs.Common.{sym, subst, option_map, arith}
use Rattle.std.proofs.lemmas.Bool.{both_ways}
use Rattle.limits.specs.Numbers.{numbered, MayHave}
use Rattle.limits.specs.InOrder.{PassesIn}
use Rattle.limits.proofs.NumberLaws.{PassesIn-easier, further}
use Rattle.limits.proofs.SpanLaws.{at-start}
use Rattle.limits.proofs.furthest_with.Goals as goal

pub passes_with-requires-clause-may : goal.passes_with-requires-clause-may
passes_with-requires-clause-may c =
    subst (λ v. MayHave c.args.set.now c.args.task c.args.number v)
    (at-start c.args.number c.span_in-span.result.easiest)
    (c.span_in-span.ensures.span.may 0 (omega arith))

pub returns-then-not-branch : goal.returns-then-not-branch
returns-then-not-branch c = λ value may passes.
    let order = option_map (λ o. o.now) c.args.order in
    let U = c.args.set.now in
    let i = c.args.task in
    let n = c.args.number in
    let e = c.span_in-span.result.easiest in
    let span = c.span_in-span.ensures.span in
    let there = span.all value may in
    let first = further (PassesIn order) (PassesIn-easier order) U i n
    e c.span_in-span.result.length span 0 there.0 (omega arith) there.1
    (subst (λ v. PassesIn order (numbered U i n v)) there.2 passes) in
    both_ways _ c.if-not-branch.true (c.in_ok-passes_with.ensures.1
    (subst (λ v. PassesIn order (numbered U i n v)) (at-start n e) first))

pub furthest_beyond-requires-clause-passes : goal.furthest_beyond-requires-clause-passes
furthest_beyond-requires-clause-passes c =
    let order = option_map (λ o. o.now) c.args.order in
    subst (λ v. PassesIn order (numbered c.args.set.now c.args.task c.args.number v))
    (sym (at-start c.args.number c.span_in-span.result.easiest))
    (c.in_ok-passes_with.ensures.0 c.if-not-branch.false)
