use Rattle.std.proofs.Common.{◌≡◌, ◌++◌, map, drop}
use Rattle.judge.proofs.order.tasks_of.Given as goal

abbrev pub invariant-loop-entry : goal.invariant-loop-entry
invariant-loop-entry l = l.order.items ++ map (λ n. n.task) (drop l.entry-index l.numbered)
    ≡ map (λ n. n.task) l.fn.numbered
