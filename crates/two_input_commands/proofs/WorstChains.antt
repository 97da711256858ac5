-- The levels of an order that was judged are those of its tasks.
use Rattle.std.proofs.Common.{◌≡◌, List, [], ◌∷◌, refl, sym, ap, subst}
use Rattle.task_sheet.proofs.Common.{Task, IsOrder}
use Rattle.chains.specs.Parts.{order_of}
use Rattle.judge.specs.Judgements.{order_judged}
use Rattle.judge.specs.declared.judging.JudgedTask.{JudgedTask}
use Rattle.two_input_commands.specs.Chained.{levels_judged}

same_order : (judged : List JudgedTask) → order_of (levels_judged judged) ≡ order_judged judged
same_order [] = refl
same_order (j ∷ judged) = ap (λ order. j.task ∷ order) (same_order judged)

pub levels_are_order : (U : List Task) (judged : List JudgedTask) → IsOrder U (order_judged judged)
    → IsOrder U (order_of (levels_judged judged))
levels_are_order U judged is = subst (IsOrder U) (sym (same_order judged)) is
