-- Passing in an order, or in any, with all execution as it stands.
use Rattle.std.proofs.Common.{◌↔◌, ℕ, List, Option, Some, None}
use Rattle.task_sheet.specs.Sheet.{Task}
use Rattle.response_time.specs.Slowed.{PassesAt}
use Rattle.assignment.proofs.FeasibilityLaws.{IsFeasible-own, IsPassing-own}
use Rattle.other_numbers.specs.InOrder.{PassesIn, PassesInBy}

pub PassesIn-own : (order : Option (List ℕ)) (U : List Task) → PassesIn order U ↔ PassesInBy (PassesAt 1000 U) order U
PassesIn-own (Some order) U = IsPassing-own U order
PassesIn-own None U = IsFeasible-own U
