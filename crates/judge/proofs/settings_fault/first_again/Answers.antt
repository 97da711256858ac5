use Rattle.std.proofs.Common.{◌∙◌, sym}
use Rattle.judge.specs.SettingFaults.{share}
use Rattle.judge.proofs.FaultLaws.{again_step}
use Rattle.judge.proofs.settings_fault.first_again.Goals as goal

pub returns-then-some_shares : goal.returns-then-some_shares
returns-then-some_shares c =
    let step = again_step (share c.args.field) c.args.settings.now c.loop-place.place
    c.index-settings-place.result c.some_shares.result c.loop-place-test.true
    c.index-settings-place.is c.some_shares.ensures in
    sym (sym c.loop-place.invariant ∙ rw c.if-some_shares.true at step)

pub loop-place-preserved : goal.loop-place-preserved
loop-place-preserved c =
    let step = again_step (share c.args.field) c.args.settings.now c.loop-place.place
    c.index-settings-place.result c.some_shares.result c.loop-place-test.true
    c.index-settings-place.is c.some_shares.ensures in
    sym (rw c.if-some_shares.false at step) ∙ c.loop-place.invariant
