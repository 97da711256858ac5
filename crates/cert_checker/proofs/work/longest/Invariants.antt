use Rattle.std.proofs.Common.{◌≡◌, take, if◌then◌else◌}
use Rattle.task_sheet.proofs.Common.{indexes_of, reaches, greatest_of}
use Rattle.cert_checker.proofs.work.longest.Given as goal

abbrev pub invariant-loop-section : goal.invariant-loop-section
invariant-loop-section l =
    l.longest ≡ greatest_of (λ s. if reaches l.set (indexes_of l.members) s then s.len else 0)
    (take l.section-index l.section-items)
