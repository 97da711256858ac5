use Rattle.task_sheet.specs.Sheet.{outranks_task, task_at}
use Rattle.ceilings.proofs.OutrankedLaws.{AreBelow}
use Rattle.ceilings.proofs.outranked.outranked.Given as goal

abbrev pub invariant-loop-index : goal.invariant-loop-index
invariant-loop-index l = AreBelow (λ k. outranks_task l.sheet (task_at l.set k)) l.found l.index
