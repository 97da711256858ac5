use Rattle.std.proofs.Common.{◌≡◌, max, drop}
use Rattle.task_sheet.proofs.Common.{greatest_of}
use Rattle.ceiling_kernel.specs.Waits.{lateness_of}
use Rattle.chain_worst.proofs.aims.lead_in_of.Given as goal

abbrev pub invariant-loop-sheet : goal.invariant-loop-sheet
invariant-loop-sheet l =
    max l.lead (greatest_of (λ t. max t.cost (lateness_of t)) (drop l.sheet-index l.set))
    ≡ greatest_of (λ t. max t.cost (lateness_of t)) l.set
