-- Sets without doubts, in words of their own.
use Rattle.std.specs.Prelude.{◌≡◌, ℕ, ◌≤◌, Bool, true, false, List, [], ◌∷◌}
use Rattle.std.specs.List.{AllByRecursion}
use Rattle.task_sheet.specs.Sheet.{CriticalSection, Task, names_said}
use Rattle.task_sheet.specs.Demand.{limit_of}
use Rattle.doubts.specs.Doubts.{is_known, is_lone, is_unweighed}

-- each lock that the task's sections name has another user in the set U, too
abbrev pub AreShared : List Task → Task → Type 0
AreShared U t =
    AllByRecursion (λ (s : CriticalSection). AllByRecursion (λ lock. is_lone U lock ≡ false) s.locks)
    t.sections

-- each name that the task outranks is that of a task
abbrev pub AreKnown : List Task → Task → Type 0
AreKnown U t = AllByRecursion (λ name. is_known U name ≡ true) (names_said t.outranks)

-- no task has a shorter limit than one above it by rank
abbrev pub Falls : List Task → Type 0
Falls [] = Unit {0}
Falls (t ∷ above) = AllByRecursion (λ (u : Task). limit_of u ≤ limit_of t) above × Falls above

-- no lock has one user alone, each name to outrank is known, and where nobody prefers anything and no task has a weight,
-- names put none below one of a longer limit
pub record IsPlain (is_unpreferred : Bool) (U : List Task) : Type 0 where
  pub shared : AllByRecursion (AreShared U) U
  pub known : AllByRecursion (AreKnown U) U
  pub decided : is_unpreferred ≡ true → is_unweighed U ≡ true → Falls U
