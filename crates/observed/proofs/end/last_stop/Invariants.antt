use Rattle.std.proofs.Common.{◌≡◌, max, drop}
use Rattle.task_sheet.specs.Demand.{greatest_of}
use Rattle.observed.proofs.end.last_stop.Given as goal

abbrev pub invariant-loop-slice : goal.invariant-loop-slice
invariant-loop-slice l = max l.last (greatest_of (λ s. s.stop) (drop l.slice-index l.slices))
    ≡ greatest_of (λ s. s.stop) l.slices
