use Rattle.std.proofs.Common.{◌≡◌, cond}
use Rattle.task_sheet.proofs.Common.{greatest_below, indexes_of, task_at}
use Rattle.judge.specs.Ceilings.{ceiling_in, longest_raised}
use Rattle.judge.proofs.raised.blocking_at.Given as goal

abbrev pub invariant-loop-index : goal.invariant-loop-index
invariant-loop-index l = l.longest ≡ greatest_below l.index (λ k. cond (indexes_of l.others k) 0
    (longest_raised (ceiling_in l.set l.settings.threads.items l.settings.mutexes.items) l.number
    (task_at l.set k)))
