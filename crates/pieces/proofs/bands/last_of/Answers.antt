use Rattle.std.proofs.Common.{◌≡◌, ◌+◌, ◌-◌, suc, sym, ◌∙◌, arith}
use Rattle.pieces.specs.Bands.{last_of}
use Rattle.pieces.proofs.bands.last_of.Goals as goal

pub returns-then-eq : goal.returns-then-eq
unfolding last_of
returns-then-eq c =
    let step : c.args.n - c.loop-i.i ≡ suc (c.args.n - 1 - c.loop-i.i) = omega arith in
    rw (step, ← c.job_at-job.ensures, sym c.eq.ensures ∙ c.if-eq.true) at c.loop-i.invariant

pub loop-i-preserved : goal.loop-i-preserved
unfolding last_of
loop-i-preserved c =
    let step : c.args.n - c.loop-i.i ≡ suc (c.args.n - 1 - c.loop-i.i) = omega arith in
    let next : c.args.n - (c.loop-i.i + 1) ≡ c.args.n - 1 - c.loop-i.i = omega arith in
    rw next
    (rw (step, ← c.job_at-job.ensures, sym c.eq.ensures ∙ c.if-eq.false) at c.loop-i.invariant)

pub returns : goal.returns
unfolding last_of
returns c =
    let none : c.args.n - c.loop-i.i ≡ 0 = omega arith in
    rw none at c.loop-i.invariant
