-- Levels that gather findings, and what they come to (Audsley 1991).
use Rattle.std.specs.Prelude.{◌≡◌, ℕ, ◌<◌, ◌&&◌, ◌⊎◌, Bool, true, false, not, List, length, Option, None, Some, is_some, IsSome, IsTrue, IsFalse, slice_index_or}
use Rattle.std.specs.Ordering.{nat_cmp}
use Rattle.std.specs.FinSet.{FinSet, contains, remove}
pub use Rattle.task_sheet.specs.SetCodes.{set_codes}
use Rattle.task_sheet.specs.Sheet.{Task}
use Rattle.task_sheet.specs.Indexes.{Indexes, indexes_of, without_index, listed_below}
use Rattle.task_sheet.specs.Orders.{Stands}
use Rattle.task_sheet.specs.Levels.{IsObstruction}
use Rattle.task_sheet.specs.Verdicts.{FailureData, tasks_of, AllFailures}
use Rattle.assignment.specs.Outcomes.{IsOutcome}
use Rattle.assignment.specs.declared.outcome.Outcome.{Outcome}
use Rattle.assignment.specs.declared.outcome.Outcome.TheVariants.{Pass, Fail}
use Rattle.assignment.specs.Questions.{QuestionData}

-- a set, the tasks of it that are left, which are the candidates, and those of them that have no
-- finding yet
pub record LevelState : Type 0 where
  pub set : List Task
  pub left : FinSet nat_cmp
  pub missing : FinSet nat_cmp

-- the question on a candidate, with the others that are left above it, in a set of the same content
pub record IsAsked (l : LevelState) (q : QuestionData) : Type 0 where
  pub same : q.set ≡ l.set
  pub candidate : IsTrue (contains l.left q.task)
  pub rest : q.above ≡ remove l.left q.task

-- the level with a finding on one more candidate
abbrev pub with_finding : LevelState → ℕ → LevelState
with_finding l task = record { set = l.set; left = l.left; missing = remove l.missing task }

-- a candidate with a finding by which it may stand below the others, while each one of smaller rank
-- has a finding too
pub record IsLeastFound (l : LevelState) (i : ℕ) : Type 0 where
  pub candidate : IsTrue (contains l.left i)
  pub found : IsFalse (contains l.missing i)
  pub stands : Stands l.set i (without_index (indexes_of l.left) i)
  pub lesser : (j : ℕ) → j < i → IsTrue (contains l.left j) → IsFalse (contains l.missing j)

-- all candidates have a finding, or enough of them
abbrev pub IsDecided : LevelState → Type 0
IsDecided l = ((j : ℕ) → IsTrue (contains l.left j) → IsFalse (contains l.missing j))
    ⊎ ((i : ℕ) × IsLeastFound l i)

-- none of the tasks L may stand below the others of them; the failure of each, by rank
pub record IsObstructed (U : List Task) (L : Indexes) (fails : List FailureData) : Type 0 where
  pub obstruction : IsObstruction U L
  pub ranked : tasks_of fails ≡ listed_below (length U) L
  pub each : AllFailures U L fails

-- what is known of a candidate is right
abbrev pub IsRightAt : List Task → Indexes → ℕ → Option Outcome → Type 0
IsRightAt U L k None = Unit {0}
IsRightAt U L k (Some answer) = IsOutcome U k (without_index L k) answer

-- the answer lets its task stand there
abbrev pub lets_stand : Outcome → Bool
lets_stand (Pass response) = true
lets_stand (Fail reason) = false

-- an answer for each task, where it is known, and each that is known is right
pub record AreRight (U : List Task) (L : Indexes) (answers : List (Option Outcome)) : Type 0 where
  pub full : length answers ≡ length U
  pub right : (k : ℕ) → IsRightAt U L k (slice_index_or answers k None)

-- the candidates that have no answer
abbrev pub AreMissing : FinSet nat_cmp → FinSet nat_cmp → List (Option Outcome) → Type 0
AreMissing left missing answers =
    (k : ℕ) → contains missing k
    ≡ (contains left k && not (is_some (slice_index_or answers k None)))

-- the answers are enough: each candidate has one, but for those of greater rank than one that may
-- stand
abbrev pub IsEnough : List Task → Indexes → List (Option Outcome) → Type 0
IsEnough U L answers =
    (k : ℕ) → IsTrue (L k) → ((j : ℕ) → j < k → IsTrue (L j) → ¬ Stands U j (without_index L j))
    → IsSome (slice_index_or answers k None)
