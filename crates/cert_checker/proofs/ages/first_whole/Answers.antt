use Rattle.std.proofs.Common.{◌∙◌, sym, arith, []}
use Rattle.chains.specs.Walks.{steps_with}
use Rattle.chains.proofs.WalkLaws.{first_whole_end, first_whole_here, first_whole_past}
use Rattle.cert_checker.proofs.StartLaws.{same-first}
use Rattle.cert_checker.proofs.ages.first_whole.Goals as goal

pub loop-n-preserved : goal.loop-n-preserved
loop-n-preserved c =
    first_whole_past (steps_with c.args.set.now [] [] c.args.tasks.now) c.args.period 10001 c.loop-n.n _
    (omega arith) (sym c.are_whole.ensures ∙ c.if-are_whole.false) c.loop-n.invariant

pub returns-then-are_whole : goal.returns-then-are_whole
returns-then-are_whole c = λ offsets.
    first_whole_here (steps_with c.args.set.now [] [] c.args.tasks.now) c.args.period 10001 c.loop-n.n _
    (omega arith) (sym c.are_whole.ensures ∙ c.if-are_whole.true) c.loop-n.invariant
    ∙ same-first c.args.set.now [] [] offsets [] c.args.tasks.now c.args.period 10000 1

pub returns : goal.returns
returns c = λ offsets.
    first_whole_end (steps_with c.args.set.now [] [] c.args.tasks.now) c.args.period 10001 c.loop-n.n _
    c.loop-n-test.false c.loop-n.invariant
    ∙ same-first c.args.set.now [] [] offsets [] c.args.tasks.now c.args.period 10000 1
