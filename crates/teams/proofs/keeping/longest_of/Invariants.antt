use Rattle.std.proofs.Common.{◌≡◌, drop, max, if◌then◌else◌}
use Rattle.teams.specs.Budgets.{is_shared}
use Rattle.task_sheet.specs.Demand.{greatest_of}
use Rattle.teams.proofs.keeping.longest_of.Given as goal

abbrev pub invariant-loop-section : goal.invariant-loop-section
invariant-loop-section l = max l.longest (greatest_of
    (λ s. if is_shared l.tasks l.team s then s.len else 0) (drop l.section-index l.section-items))
    ≡ greatest_of (λ s. if is_shared l.tasks l.team s then s.len else 0) l.section-items
