use Rattle.std.proofs.Common.{◌≡◌, ◌+◌, ◌-◌, suc, length, sym, ◌∙◌, arith}
use Rattle.pieces.specs.Bands.{next_from}
use Rattle.pieces.proofs.bands.next_of.Goals as goal

pub returns-then-begins-clause-value : goal.returns-then-begins-clause-value
unfolding next_from
returns-then-begins-clause-value c =
    let n = length c.args.jobs.now in
    let step : n - c.loop-next.next ≡ suc (n - (c.loop-next.next + 1)) = omega arith in
    rw (step, sym c.begins.ensures ∙ c.if-begins.true) at c.loop-next.invariant

pub loop-next-preserved : goal.loop-next-preserved
unfolding next_from
loop-next-preserved c =
    let n = length c.args.jobs.now in
    let step : n - c.loop-next.next ≡ suc (n - (c.loop-next.next + 1)) = omega arith in
    rw (step, sym c.begins.ensures ∙ c.if-begins.false) at c.loop-next.invariant

pub returns-clause-value : goal.returns-clause-value
unfolding next_from
returns-clause-value c =
    let n = length c.args.jobs.now in
    let end : c.loop-next.next ≡ n =
    omega (arith, c.loop-next-test.false, c.loop-next.auto, c.requires) in
    let none : n - c.loop-next.next ≡ 0 = omega arith in
    sym end ∙ rw none at c.loop-next.invariant
