use Rattle.std.proofs.Common.{◌≡◌, ◌++◌, drop, not}
use Rattle.std.specs.List.{filter}
use Rattle.owners.specs.Owners.{has_task}
use Rattle.owners.proofs.parts.others_of.Given as goal

abbrev pub invariant-loop-sheet : goal.invariant-loop-sheet
invariant-loop-sheet l = l.others.items ++ filter (λ t. not (has_task l.owners l.team t)) (drop l.sheet-index l.sheets)
    ≡ filter (λ t. not (has_task l.owners l.team t)) l.sheets
