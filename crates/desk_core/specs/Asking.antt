-- The questions of a trial.
use Rattle.std.specs.Prelude.{◌≡◌, ℕ, ◌<◌, List, Option, None, Some, IsTrue, IsFalse}
use Rattle.std.specs.FinSet.{contains}
use Rattle.task_sheet.specs.Sheet.{Task, task_at}
use Rattle.assignment.specs.Questions.{QuestionData}
use Rattle.assignment.specs.Levels.{IsAsked}
use Rattle.desk_core.specs.Findings.{Asked, level_of, IsPresent, IsTested}

-- the question on the missing candidate of least rank at the present level
pub record IsNextAsked (U : List Task) (found : List Asked) (q : QuestionData) (k : ℕ) : Type 0 where
  pub present : IsPresent U found k
  pub asked : IsAsked (level_of U found k) q
  pub missing : IsTrue (contains (level_of U found k).missing q.task)
  pub least : (j : ℕ) → j < q.task → IsFalse (contains (level_of U found k).missing j)

-- there is none where the verdict is complete
abbrev pub IsAsking : List Task → List Asked → Option QuestionData → Type 0
IsAsking U found None = IsTested U found
IsAsking U found (Some q) = (k : ℕ) × IsNextAsked U found q k

-- the question on the candidate of that name at the present level
pub record IsAskedBy (U : List Task) (found : List Asked) (name : List ℕ) (q : QuestionData) : Type 0 where
  pub level : ℕ
  pub present : IsPresent U found level
  pub asked : IsAsked (level_of U found level) q
  pub named : (task_at U q.task).name ≡ name

-- none where no candidate has the name
abbrev pub IsQuestionNamed : List Task → List Asked → List ℕ → Option QuestionData → Type 0
IsQuestionNamed U found name (Some q) = IsAskedBy U found name q
IsQuestionNamed U found name None = (q : QuestionData) → ¬ IsAskedBy U found name q
