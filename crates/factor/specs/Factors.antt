-- All execution of a set taken so many thousandths of itself, as on a slower processor, and the greatest such factor with
-- which it passes.
use Rattle.std.specs.Prelude.{ℕ, ◌+◌, ◌*◌, ◌<◌, ◌≤◌, List, Option, Some, None}
use Rattle.task_sheet.specs.Sheet.{Task}
use Rattle.task_sheet.specs.Indexes.{Indexes}
pub use Rattle.response_time.specs.Slowed.{PassesAt}
use Rattle.latest_first.specs.LatestFirst.{IsFirstLatest}
use Rattle.latest_first.specs.Tested.{ObstructsMostBy}
use Rattle.other_numbers.specs.Easier.{AreEasierBy}
use Rattle.other_numbers.specs.InOrder.{PassesInBy}
use Rattle.factor.specs.declared.Slowdown.{Slowdown}

-- this order passes at a factor, or some order where none is given
abbrev pub PassesInAt : (factor : ℕ) → Option (List ℕ) → List Task → Type 0
PassesInAt factor order U = PassesInBy (PassesAt factor U) order U

-- the greatest factor, from 1 on, at which it passes
pub record IsFactor (U : List Task) (order : Option (List ℕ)) (factor : ℕ) : Type 0 where
  pub some : 1 ≤ factor
  pub passes : PassesInAt factor order U
  pub greatest : (more : ℕ) → factor < more → ¬ PassesInAt more order U

-- that, or none where no factor helps
abbrev pub AnswersFactor : List Task → Option (List ℕ) → Option ℕ → Type 0
AnswersFactor U order (Some factor) = IsFactor U order factor
AnswersFactor U order None = (factor : ℕ) → 1 ≤ factor → ¬ PassesInAt factor order U

-- of the tasks that are in the way of every order at this factor the first with the longest limit of those that need not
-- stand above another of them
abbrev pub FailsFirst : List Task → (factor : ℕ) → ℕ → Type 0
FailsFirst U factor i = (S : Indexes) × ObstructsMostBy (PassesAt factor U) U S × IsFirstLatest U S i

-- the greatest factor at which some order passes, and the task that fails first past it; or none where none helps
abbrev pub AnswersSlowdown : List Task → Option Slowdown → Type 0
AnswersSlowdown U (Some found) = IsFactor U None found.most × FailsFirst U (found.most + 1) found.task
AnswersSlowdown U None = AnswersFactor U None None

-- so many thousandths of the other time at most
abbrev pub IsAtMost : (factor slow time : ℕ) → Type 0
IsAtMost factor slow time = 1000 * slow ≤ factor * time

-- each task of a set asks no more than that of another one, and what it executes, its cost, its sections, its timer and the
-- interrupts on its account, takes at most so many thousandths, one by one
abbrev pub AreSlow : (factor : ℕ) → List Task → List Task → Type 0
AreSlow factor = AreEasierBy (IsAtMost factor)
