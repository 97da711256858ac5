-- Questions whether a task may stand, and their right answers.
use Rattle.std.specs.Prelude.{ℕ, ◌<◌, List, length, IsFalse}
use Rattle.std.specs.Ordering.{nat_cmp}
use Rattle.std.specs.FinSet.{FinSet}
use Rattle.task_sheet.specs.Sheet.{Task}
use Rattle.task_sheet.specs.Indexes.{indexes_of, IsPart}
use Rattle.task_sheet.specs.Orders.{all_of}
use Rattle.assignment.specs.Outcomes.{IsOutcome}
use Rattle.assignment.specs.declared.outcome.Outcome.{Outcome}

-- whether the task of the set may stand with those above it
pub record QuestionData : Type 0 where
  pub set : List Task
  pub above : FinSet nat_cmp
  pub task : ℕ

-- the task and those above it are of the set, and apart
pub record IsQuestion (q : QuestionData) : Type 0 where
  pub task : q.task < length q.set
  pub above : IsPart (indexes_of q.above) (all_of q.set)
  pub apart : IsFalse (indexes_of q.above q.task)

-- a question with its answer
pub record FindingData : Type 0 where
  pub question : QuestionData
  pub answer : Outcome

-- the response of the task, or the reason why it may not stand there
abbrev pub IsRight : QuestionData → Outcome → Type 0
IsRight q a = IsOutcome q.set q.task (indexes_of q.above) a
