use Rattle.std.proofs.Common.{◌∙◌, ◌++◌, ◌∷◌, [], ap}
use Rattle.judge.specs.SettingLines.{turned}
use Rattle.judge.proofs.CopyLaws.{made_next}
use Rattle.judge.proofs.rows.all_turned.Goals as goal

pub loop-setting-preserved : goal.loop-setting-preserved
loop-setting-preserved c = made_next turned c.args.settings.now c.loop-setting.all.items
    c.push.new.self.items c.loop-setting.setting-index c.setting-item.result
    c.loop-setting-test.true (c.in_ok-push.ensures.items ∙ ap (λ s.
    c.loop-setting.all.items ++ s ∷ []) (c.turned.ensures ∙ ap turned c.setting-item.is))
    c.loop-setting.invariant
