use Rattle.std.proofs.Common.{◌≡◌, ◌+◌, ◌-◌, suc, sym, ◌∙◌, arith}
use Rattle.frames.proofs.tones.first_free.Goals as goal

pub returns-then-not-has_tone-clause-value : goal.returns-then-not-has_tone-clause-value
returns-then-not-has_tone-clause-value c =
    let i = c.loop-i.i in
    let step : c.args.count - i ≡ suc (c.args.count - (i + 1)) = omega arith in
    rw (step, sym c.has_tone.ensures ∙ c.if-not-has_tone.true) at c.loop-i.invariant

pub loop-i-preserved : goal.loop-i-preserved
loop-i-preserved c =
    let i = c.loop-i.i in
    let step : c.args.count - i ≡ suc (c.args.count - (i + 1)) = omega arith in
    let place : c.args.from + (i + 1) ≡ c.args.from + i + 1 = omega arith in
    rw place (rw (step, sym c.has_tone.ensures ∙ c.if-not-has_tone.false) at c.loop-i.invariant)

pub returns-clause-value : goal.returns-clause-value
returns-clause-value c =
    let none : c.args.count - c.loop-i.i ≡ 0 = omega (arith, c.loop-i-test.false) in
    rw none at c.loop-i.invariant
