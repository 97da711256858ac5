use Rattle.std.proofs.Common.{◌≡◌, cond, take}
use Rattle.task_sheet.proofs.Common.{greatest_of}
use Rattle.judge.specs.Ceilings.{ceiling_in, raises_to}
use Rattle.judge.proofs.raised.longest_raised.Given as goal

abbrev pub invariant-loop-section : goal.invariant-loop-section
invariant-loop-section l = l.longest ≡ greatest_of
    (λ s. cond (raises_to
    (ceiling_in l.set l.settings.threads.items l.settings.mutexes.items) l.number s) s.len 0)
    (take l.section-index l.section-items)
