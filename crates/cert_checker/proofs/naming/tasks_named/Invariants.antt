use Rattle.std.proofs.Common.{◌≡◌, ℕ, List}
use Rattle.std.specs.Fn.{FnReturnsAt}
use Rattle.task_sheet.specs.Indexes.{indexes_of}
use Rattle.cert_checker.specs.Ready.{task_by_name}
use Rattle.cert_checker.proofs.SeenSteps.{IsSeen}
use Rattle.cert_checker.proofs.naming.tasks_named.Given as goal

abbrev pub invariant-loop-item : goal.invariant-loop-item
invariant-loop-item g l = (task : _ → ℕ) → ((item : _) (name : List ℕ)
    → FnReturnsAt g.F.Fn l.fn.name_of item name → task_by_name l.set name ≡ task item)
    → IsSeen l.set task l.items l.item-index (indexes_of l.seen)
