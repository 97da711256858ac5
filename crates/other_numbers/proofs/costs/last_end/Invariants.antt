use Rattle.std.proofs.Common.{◌≡◌, max, drop}
use Rattle.task_sheet.specs.Demand.{greatest_of}
use Rattle.other_numbers.specs.Costs.{last_end}
use Rattle.other_numbers.proofs.CostLaws.{section_end}
use Rattle.other_numbers.proofs.costs.last_end.Given as goal

abbrev pub invariant-loop-section : goal.invariant-loop-section
invariant-loop-section l =
    max l.end (greatest_of section_end (drop l.section-index l.section-items)) ≡ last_end l.sheet
