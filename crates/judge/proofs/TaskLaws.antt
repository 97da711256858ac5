-- The tasks of an order that was judged are the set's.
use Rattle.std.proofs.Common.{ℕ, ◌<◌, List, length, All, arith}
use Rattle.std.proofs.lemmas.List.{get_or-map, length-map}
use Rattle.task_sheet.proofs.Common.{Task, IsOrder}
use Rattle.ceiling_kernel.proofs.OrderLaws.{order_iff}
use Rattle.judge.specs.Judgements.{order_judged}
use Rattle.judge.specs.declared.judging.JudgedTask.{JudgedTask}

pub in_set : (U : List Task) (order : List ℕ) → IsOrder U order → All (λ i. i < length U) order
in_set U order each = ((order_iff (length U) order).1 each).0

pub judged_in_set : (U : List Task) (judged : List JudgedTask) → IsOrder U (order_judged judged)
    → All (λ (j : JudgedTask). j.task < length U) judged
judged_in_set U judged each = λ k d lt.
    omega (
      arith,
      in_set U (order_judged judged) each k 0 (omega (
        arith,
        lt,
        length-map judged
            (λ (j : JudgedTask). j.task),
      )),
      get_or-map (λ (j : JudgedTask). j.task) judged k d 0 lt,
    )
