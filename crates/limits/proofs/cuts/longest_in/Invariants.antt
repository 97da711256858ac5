use Rattle.std.proofs.Common.{◌≡◌, take}
use Rattle.task_sheet.specs.Demand.{greatest_of}
use Rattle.limits.specs.Cuts.{len_on}
use Rattle.limits.proofs.cuts.longest_in.Given as goal

abbrev pub invariant-loop-section : goal.invariant-loop-section
invariant-loop-section l =
    l.longest ≡ greatest_of (len_on l.lock l.node) (take l.section-index l.section-items)
