use Rattle.std.proofs.Common.{◌≡◌, ◌++◌, map, drop}
use Rattle.judge.specs.declared.judging.JudgedTask.{JudgedTask}
use Rattle.judge.proofs.explained.order_of.Given as goal

abbrev pub invariant-loop-entry : goal.invariant-loop-entry
invariant-loop-entry l =
    l.order.items ++ map (λ (j : JudgedTask). j.task) (drop l.entry-index l.judged)
    ≡ map (λ (j : JudgedTask). j.task) l.judged
