use Rattle.std.proofs.Common.{◌≡◌, drop}
use Rattle.teams.specs.Budgets.{budgets_fault}
use Rattle.teams.proofs.keeping.budgets_fault.Given as goal

abbrev pub invariant-loop-budget : goal.invariant-loop-budget
invariant-loop-budget l =
    budgets_fault l.sets (drop l.budget-index l.budgets) ≡ budgets_fault l.sets l.budgets
