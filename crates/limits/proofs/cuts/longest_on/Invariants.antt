use Rattle.std.proofs.Common.{◌≡◌, take}
use Rattle.task_sheet.specs.Demand.{greatest_of}
use Rattle.limits.specs.Cuts.{longest_in}
use Rattle.limits.proofs.cuts.longest_on.Given as goal

abbrev pub invariant-loop-sheet : goal.invariant-loop-sheet
invariant-loop-sheet l =
    l.longest ≡ greatest_of (longest_in l.lock) (take l.sheet-index l.sheet-items)
