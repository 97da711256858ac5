-- An order of a set, and the furthest value of a number in it.
use Rattle.std.proofs.Common.{arith, ℕ, ◌<◌, List, [], ◌∷◌, length, Option, Some, None, IfSome, cond, sym, ◌∙◌, ap}
use Rattle.std.proofs.lemmas.Bool.{ltb-true}
use Rattle.task_sheet.proofs.Common.{Task, AreOverheads, IsFeasible, IsOrder, IsTaskSet, below, no_task}
use Rattle.assignment.specs.Placings.{IsPlacingOf}
use Rattle.assignment.specs.declared.placing.Placing.{Placing}
use Rattle.assignment.specs.declared.placing.Placing.TheVariants.{Best, Stuck}
use Rattle.limits.specs.declared.number.Number.{Number}
use Rattle.limits.specs.Numbers.{MayHave, numbered}
use Rattle.factor.specs.Factors.{AnswersSlowdown}
use Rattle.factor.specs.declared.Slowdown.{Slowdown}
use Rattle.limits.specs.Written.{node_of, written_task, written}
use Rattle.limit_lines.specs.LimitLines.{AnswersIn, order_given}
use Rattle.overheads.proofs.MappedSets.{count-mapped}

-- the order of a placing is one of the set
pub given_orders : (U : List Task) (placing : Placing) → IsPlacingOf U placing
    → IfSome (order_given placing) (IsOrder U)
given_orders U (Best places) is = is.best.passing.each_once
given_orders U (Stuck members) is = tt

-- with the furthest value in an order the sheet is valid, and some order passes: that one
pub known_in : (U : List Task) (order : Option (List ℕ)) (i : ℕ) (number : Number)
    (own : Option ℕ) → AnswersIn U order i number own
    → IfSome own (λ value. MayHave U i number value × IsFeasible (numbered U i number value))
known_in U (Some order) i number (Some value) is = (is.may, (order, is.feasible))
known_in U (Some order) i number None is = tt
known_in U None i number own is = rw is tt

-- an order of a set is one of the set without its node's part
pub orders-written : (U : List Task) (order : Option (List ℕ)) → IfSome order (IsOrder U)
    → IfSome order (IsOrder (written U))
orders-written U (Some order) is = λ k. is k
    ∙ ap (λ n. cond (below n k) 1 0) (sym (count-mapped written_task U))
orders-written U None is = tt

-- what the node of a set takes is within the limits
pub node-within : (U : List Task) → IsTaskSet U → AreOverheads (node_of U)
node-within [] set =
    record { job = omega arith; lock = omega arith; late = omega arith; release = omega arith }
node-within (t ∷ ts) set = (set.valid 0 no_task (omega arith)).overheads

-- the task that fails first is one of the set
pub fails-inside : (U : List Task) (found : Option Slowdown) → AnswersSlowdown U found
    → IfSome found (λ slowdown. slowdown.task < length U)
fails-inside U (Some found) is =
    let (S, obstructs, first) = is.1 in
    ltb-true found.task (length U) (obstructs.obstruction.within found.task first.latest.free.0)
fails-inside U None is = tt
