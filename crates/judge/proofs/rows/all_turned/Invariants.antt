use Rattle.std.proofs.Common.{◌≡◌, ◌++◌, map, drop}
use Rattle.judge.specs.SettingLines.{turned}
use Rattle.judge.proofs.rows.all_turned.Given as goal

abbrev pub invariant-loop-setting : goal.invariant-loop-setting
invariant-loop-setting l =
    l.all.items ++ map turned (drop l.setting-index l.settings) ≡ map turned l.fn.settings
