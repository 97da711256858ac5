-- At which priorities a job may run.
use Rattle.std.specs.Prelude.{ℕ, Bool, false, ◌==◌, ◌||◌, ◌&&◌, not, nat_lt, List, [], ◌∷◌, Option, Some, None, if◌then◌else◌}
use Rattle.std.specs.List.{list_any}
use Rattle.task_sheet.specs.Sheet.{CriticalSection, Task, task_at}
use Rattle.task_sheet.specs.Demand.{greatest_of}
use Rattle.task_sheet.specs.Locks.{uses}
use Rattle.observed.specs.Shares.{share_of}
use Rattle.observed.specs.declared.pieces.Piece.{Piece}
use Rattle.observed.specs.declared.promises.Promise.{Promise}
use Rattle.observed.specs.declared.shares.Whom.TheVariants.{Job}

-- the ceiling of a lock: the greatest number of a thread whose task uses it
abbrev pub ceiling_in : List Task → List Promise → (lock : List ℕ) → ℕ
ceiling_in U promises lock =
    greatest_of (λ p. if uses (task_at U p.task) lock then p.number else 0) promises

-- it is the ceiling of a lock of the section
abbrev pub is_ceiling_in : List Task → List Promise → ℕ → CriticalSection → Bool
is_ceiling_in U promises number s = list_any (λ lock. ceiling_in U promises lock == number) s.locks

-- it is the number of the task's thread, or the ceiling of a lock of one of its sections
abbrev pub may_run_at : List Task → List Promise → Promise → ℕ → Bool
may_run_at U promises promise number =
    (promise.number == number)
    || list_any (λ s. is_ceiling_in U promises number s) (task_at U promise.task).sections

-- a priority, where it is said, is neither
abbrev pub is_wrong : List Task → List Promise → Promise → Option ℕ → Bool
is_wrong U promises promise None = false
is_wrong U promises promise (Some number) = not (may_run_at U promises promise number)

-- the job at a place ran, in this piece between two times, at such a priority
abbrev pub is_stray : List Task → List Promise → Promise → (place from to : ℕ) → Piece → Bool
is_stray U promises promise place from to p =
    nat_lt 0 (share_of (Job place) from to p) && is_wrong U promises promise p.priority

-- the first such priority
abbrev pub stray_in : List Task → List Promise → Promise → (place from to : ℕ) → List Piece → Option ℕ
stray_in U promises promise place from to [] = None
stray_in U promises promise place from to (p ∷ pieces) =
    if is_stray U promises promise place from to p
    then p.priority
    else stray_in U promises promise place from to pieces
