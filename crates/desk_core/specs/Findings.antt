-- Which levels of a set the findings decide, and what one more finding does.
use Rattle.std.specs.Prelude.{◌≡◌, ℕ, suc, ◌<◌, Bool, List, [], ◌∷◌, ◌++◌, IsTrue, IsFalse, if◌then◌else◌}
use Rattle.std.specs.Ordering.{nat_cmp}
use Rattle.std.specs.FinSet.{FinSet, contains, insert, remove}
use Rattle.task_sheet.specs.Sheet.{Task}
use Rattle.task_sheet.specs.Indexes.{indexes_of, without_index}
use Rattle.task_sheet.specs.MembersWords.{same_members}
use Rattle.task_sheet.specs.Demand.{IsResponseOf}
use Rattle.task_sheet.specs.Levels.{IsChosen}
use Rattle.assignment.specs.Questions.{QuestionData}
use Rattle.assignment.specs.Levels.{LevelState, IsAsked, IsDecided}
use Rattle.desk_core.specs.declared.told.Told.{Told}
use Rattle.desk_core.specs.declared.told.Told.TheVariants.{Stranger, Twice, Taken, LevelDone, Tested}
use Rattle.task_sheet.specs.Choices.{level_at}

-- which question a finding answers, in a set that is known: a candidate, and the others of its level above it
pub record Asked : Type 0 where
  pub above : FinSet nat_cmp
  pub task : ℕ

-- the question of a finding, on a set that is known; a finding is determined by its question
abbrev pub asked_of : QuestionData → Asked
asked_of q = record { above = q.above; task = q.task }

-- it asks of these candidates: its task and those above it are they
abbrev pub is_on : FinSet nat_cmp → Asked → Bool
is_on left a = same_members (insert a.above a.task) left

-- what is missing of the candidates after findings
abbrev pub missing_after : (left missing : FinSet nat_cmp) → List Asked → FinSet nat_cmp
missing_after left missing [] = missing
missing_after left missing (a ∷ found) =
    missing_after left (if is_on left a then remove missing a.task else missing) found

-- a level with the findings on its candidates
abbrev pub level_of : List Task → List Asked → ℕ → LevelState
level_of U found k =
    record { set = U; left = level_at U k; missing = missing_after (level_at U k) (level_at U k) found }

-- the findings decide the level
abbrev pub Decides : List Task → List Asked → ℕ → Type 0
Decides U found k = IsDecided (level_of U found k)

-- the first level that the findings don't decide
pub record IsPresent (U : List Task) (found : List Asked) (k : ℕ) : Type 0 where
  pub before : (j : ℕ) → j < k → Decides U found j
  pub undecided : ¬ Decides U found k

-- they decide all; past the last level no task is left, and such a level is decided without findings
abbrev pub IsTested : List Task → List Asked → Type 0
IsTested U found = (k : ℕ) → Decides U found k

-- the question is on a candidate of the present level that has no finding
pub record IsNews (U : List Task) (found : List Asked) (q : QuestionData) (k : ℕ) : Type 0 where
  pub present : IsPresent U found k
  pub asked : IsAsked (level_of U found k) q
  pub missing : IsTrue (contains (level_of U found k).missing q.task)

-- after the findings before them each of these, one after the other, was on a candidate of the level
-- that was present then, and had no finding
abbrev pub AreNews : List Task → (before found : List Asked) → Type 0
AreNews U before [] = Unit {0}
AreNews U before (a ∷ found) =
    ((q : QuestionData) × (k : ℕ) × (a ≡ asked_of q) × IsNews U before q k)
    × AreNews U (before ++ a ∷ []) found

-- the finding decides level k by a task with its response, and the next level is the present one
pub record IsLevelDone (U : List Task) (found : List Asked) (k level task response : ℕ) : Type 0 where
  pub next : IsPresent U found (suc k)
  pub number : level ≡ suc k
  pub chosen : IsChosen U (indexes_of (level_at U k)) task
  pub right : IsResponseOf U task (without_index (indexes_of (level_at U k)) task) response

-- the answer to a finding, by its question
abbrev pub IsTold : List Task → List Asked → QuestionData → Told → Type 0
IsTold U found q Stranger = (k : ℕ) → IsPresent U found k → ¬ IsAsked (level_of U found k) q
IsTold U found q Twice =
    (k : ℕ) × IsPresent U found k × IsAsked (level_of U found k) q
    × IsFalse (contains (level_of U found k).missing q.task)
IsTold U found q Taken = (k : ℕ) × IsNews U found q k × IsPresent U (found ++ asked_of q ∷ []) k
IsTold U found q (LevelDone level task response) =
    (k : ℕ) × IsNews U found q k × IsLevelDone U (found ++ asked_of q ∷ []) k level task response
IsTold U found q Tested = (k : ℕ) × IsNews U found q k × IsTested U (found ++ asked_of q ∷ [])

-- the findings then
abbrev pub found_after : List Asked → Asked → Told → List Asked
found_after found a Stranger = found
found_after found a Twice = found
found_after found a Taken = found ++ a ∷ []
found_after found a (LevelDone level task response) = found ++ a ∷ []
found_after found a Tested = found ++ a ∷ []
