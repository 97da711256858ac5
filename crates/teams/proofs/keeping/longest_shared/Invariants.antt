use Rattle.std.proofs.Common.{◌≡◌, drop, max, if◌then◌else◌}
use Rattle.teams.specs.Budgets.{longest_shared, longest_of}
use Rattle.task_sheet.proofs.Common.{greatest_of, same_bytes}
use Rattle.teams.proofs.keeping.longest_shared.Given as goal

abbrev pub invariant-loop-owned : goal.invariant-loop-owned
invariant-loop-owned l = max l.longest (greatest_of (λ o. if same_bytes o.team l.team then
    longest_of l.tasks l.team o.sheet else 0) (drop l.owned-index l.tasks))
    ≡ longest_shared l.tasks l.team
