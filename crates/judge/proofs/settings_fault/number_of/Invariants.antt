use Rattle.std.proofs.Common.{◌≡◌, drop}
use Rattle.judge.specs.SettingFaults.{setting_number}
use Rattle.judge.proofs.settings_fault.number_of.Given as goal

abbrev pub invariant-loop-setting : goal.invariant-loop-setting
invariant-loop-setting l =
    setting_number (drop l.setting-index l.settings) l.name ≡ setting_number l.fn.settings l.name
