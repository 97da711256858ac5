-- What a verdict says, and of which set.
use Rattle.std.specs.Prelude.{List}
use Rattle.task_sheet.specs.Sheet.{Task}
use Rattle.task_sheet.specs.Verdicts.{VerdictData}
use Rattle.task_sheet.specs.Verdicts as data_of
use Rattle.assignment.specs.declared.verdict.Verdict.{Verdict}
use Rattle.assignment.specs.declared.verdict.Verdict.TheVariants.{Admitted, Infeasible}

-- the set that a verdict is on
abbrev pub verdict_set : Verdict → List Task
verdict_set (Admitted a) = a.set
verdict_set (Infeasible o) = o.set

-- what a verdict says of it
abbrev pub verdict_of : Verdict → VerdictData
verdict_of (Admitted a) = data_of.Admitted a.levels
verdict_of (Infeasible o) = data_of.Infeasible o.members
