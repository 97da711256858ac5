use Rattle.std.proofs.Common.{◌≡◌, drop}
use Rattle.judge.specs.SettingFaults.{setting_number}
use Rattle.judge.specs.SettingLines.{threads_of}
use Rattle.judge.proofs.numbers.number_in.Given as goal

abbrev pub invariant-loop-row : goal.invariant-loop-row
invariant-loop-row l = setting_number (threads_of (drop l.row-index l.rows)) l.name
    ≡ setting_number (threads_of l.fn.rows) l.name
