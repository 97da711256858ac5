use Rattle.std.proofs.Common.{◌≡◌, ◌+◌, take}
use Rattle.task_sheet.proofs.Common.{calls_in}
use Rattle.overheads.proofs.padding.padded_cost.Given as goal

abbrev pub invariant-loop-section : goal.invariant-loop-section
invariant-loop-section l =
    l.cost ≡ l.sheet.cost + l.node.job + calls_in l.node (take l.section-index l.section-items)
