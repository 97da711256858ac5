use Rattle.std.proofs.Common.{◌∙◌, sym}
use Rattle.ceilings.specs.IsTableOf.{locks_of}
use Rattle.judge.proofs.FaultLaws.{find_step}
use Rattle.judge.proofs.settings_fault.first_lock.Goals as goal

pub returns-then-test : goal.returns-then-test
returns-then-test g c = λ passes gives.
    let step = find_step passes (locks_of c.args.set.now) c.loop-place.place c.in_ok-lock.lock
    c.test.result (sym c.in_ok-lock.ensures)
    (gives _ _ c.test.ensures) in
    sym (sym (c.loop-place.invariant passes gives) ∙ rw c.if-test.true at step)

pub loop-place-preserved : goal.loop-place-preserved
loop-place-preserved g c = λ passes gives.
    let step = find_step passes (locks_of c.args.set.now) c.loop-place.place c.in_ok-lock.lock
    c.test.result (sym c.in_ok-lock.ensures)
    (gives _ _ c.test.ensures) in
    sym (rw c.if-test.false at step) ∙ c.loop-place.invariant passes gives
