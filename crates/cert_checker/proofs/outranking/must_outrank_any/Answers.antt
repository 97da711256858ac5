use Rattle.std.proofs.Common.{◌≡◌, ◌<◌, length, arith, sym, ◌∙◌}
use Rattle.task_sheet.proofs.Common.{indexes_of, must_outrank_any}
use Rattle.task_sheet.proofs.PassingLaws.{must_outrank_any-at}
use Rattle.cert_checker.proofs.outranking.must_outrank_any.Goals as goal

pub returns-then-must_outrank : goal.returns-then-must_outrank
returns-then-must_outrank c =
    let U = c.args.set.now in
    let lt : c.loop-other.other < length U =
    omega (arith, c.loop-other-test.true, c.len-other-end.ensures.count) in
    sym (must_outrank_any-at U c.args.task (indexes_of c.args.above) c.loop-other.other lt
    (sym c.has.ensures ∙ c.if-has.true) (sym c.must_outrank.ensures ∙ c.if-must_outrank.true))

pub returns : goal.returns
unfolding must_outrank_any
returns c =
    let U = c.args.set.now in
    let all : c.loop-other.other ≡ length U =
    omega (arith, c.len-other-end.ensures.count, c.loop-other-test.false) in
    sym (rw all at c.loop-other.invariant)
