use Rattle.std.proofs.Common.{◌≡◌, ◌+◌, drop}
use Rattle.ceiling_kernel.specs.Tick.{level_from}
use Rattle.task_sheet.specs.Verdicts.{order_of}
use Rattle.cert_checker.specs.Ready.{levels_of}
use Rattle.cert_checker.proofs.ages.level_of.Given as goal

abbrev pub invariant-loop-i : goal.invariant-loop-i
invariant-loop-i l =
    level_from (l.i + 1) (order_of (levels_of l.set (drop l.i l.levels))) l.task
    ≡ level_from 1 (order_of (levels_of l.set l.levels)) l.task
