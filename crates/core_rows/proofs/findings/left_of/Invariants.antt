use Rattle.task_sheet.proofs.Common.{IsPart, indexes_of, all_of}
use Rattle.core_rows.proofs.findings.left_of.Given as goal

abbrev pub invariant-loop-task : goal.invariant-loop-task
invariant-loop-task g l = IsPart (indexes_of l.left) (all_of l.set)
