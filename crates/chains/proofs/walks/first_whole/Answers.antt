use Rattle.std.proofs.Common.{◌∙◌, sym, arith}
use Rattle.chains.proofs.WalkLaws.{first_whole_end, first_whole_here, first_whole_past}
use Rattle.chains.proofs.walks.first_whole.Goals as goal

pub loop-n-preserved : goal.loop-n-preserved
loop-n-preserved c =
    first_whole_past c.args.steps.now c.args.period 10001 c.loop-n.n _ (omega arith)
    (sym c.are_whole.ensures ∙ c.if-are_whole.false) c.loop-n.invariant

pub returns-then-are_whole : goal.returns-then-are_whole
returns-then-are_whole c =
    first_whole_here c.args.steps.now c.args.period 10001 c.loop-n.n _ (omega arith)
    (sym c.are_whole.ensures ∙ c.if-are_whole.true) c.loop-n.invariant

pub returns : goal.returns
returns c =
    first_whole_end c.args.steps.now c.args.period 10001 c.loop-n.n _ c.loop-n-test.false c.loop-n.invariant
