use Rattle.std.proofs.Common.{◌≡◌, [], take, drop}
use Rattle.judge.specs.SettingFaults.{line_again, share}
use Rattle.judge.proofs.settings_fault.first_again.Given as goal

abbrev pub invariant-loop-place : goal.invariant-loop-place
invariant-loop-place l = line_again (share l.fn.field) (take l.place l.settings)
    (drop l.place l.settings) ≡ line_again (share l.fn.field) [] l.settings
