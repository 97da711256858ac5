use Rattle.std.proofs.Common.{◌≡◌, ◌+◌, ◌-◌, drop}
use Rattle.task_sheet.specs.Overheads.{calls_in}
use Rattle.diff.proofs.own.shift_behind.Given as goal

abbrev pub invariant-loop-section : goal.invariant-loop-section
invariant-loop-section l =
    l.shift + calls_in l.node (drop l.section-index l.before)
    ≡ l.node.job - l.node.release + calls_in l.node l.before
