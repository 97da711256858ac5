-- What holds of the run that a chain's bound describes, as a release list, whatever its aims.
use Rattle.std.specs.Prelude.{◌≡◌, ℕ, ◌%◌, ◌<◌, ◌≤◌, List, [], ◌∷◌, length, Option, Some, None}
use Rattle.task_sheet.specs.Sheet.{Task, task_at}
use Rattle.task_sheet.specs.TaskSet.{IsTaskSet}
use Rattle.ceiling_kernel.specs.declared.accept.TheConstants.{HORIZON, RELEASE_LIMIT}
use Rattle.ceiling_kernel.specs.Releases.{jobs_of, refusal_of}
use Rattle.ceiling_kernel.specs.Tick.{node_in}
use Rattle.chains.specs.Clocks.{KeepsClock}
use Rattle.chains.specs.Gaps.{AreSteady, gap_of}
use Rattle.chains.specs.declared.bounds.Level.{Level}
use Rattle.chains.specs.declared.walks.Step.{Step}
use Rattle.chain_worst.specs.Aims.{AreAims}
use Rattle.chain_worst.specs.Arrivals.{own_aim}
use Rattle.chain_worst.specs.Built.{built_of}
use Rattle.chain_worst.specs.declared.aims.Aim.{Aim}

-- a kernel of the set refuses none that isn't too long
abbrev pub ListsAreLegal : Type 0
ListsAreLegal =
    (U : List Task) (until : ℕ) (aims : List Aim) → IsTaskSet U → until ≤ HORIZON
    → length (built_of U until aims) ≤ RELEASE_LIMIT
    → refusal_of U (built_of U until aims) until ≡ None

-- jobs of a task that has an aim arrive on one clock with it, which begins with the run
abbrev pub AreOnClock : Type 0
AreOnClock =
    (U : List Task) (order : List ℕ) (until : ℕ) (aims : List Aim) (i : ℕ) (m : Aim) → IsTaskSet U → i < length U
    → own_aim i aims ≡ Some m
    → KeepsClock (node_in U order) (jobs_of U (built_of U until aims)) 0
    (m.arrival % gap_of (task_at U i)) i

-- an aim of a task whose offset is known, and below the period, arrives there or whole periods later
abbrev pub IsAtOffset : Option ℕ → (period arrival : ℕ) → Type 0
IsAtOffset None period arrival = Unit {0}
IsAtOffset (Some offset) period arrival = offset < period → arrival % period ≡ offset

abbrev pub AreAtOffsets : List Step → List Aim → Type 0
AreAtOffsets [] aims = Unit {0}
AreAtOffsets (s ∷ steps) [] = Unit {0}
AreAtOffsets (s ∷ steps) (m ∷ aims) = IsAtOffset s.offset s.period m.arrival × AreAtOffsets steps aims

abbrev pub AimsAreAtOffsets : Type 0
AimsAreAtOffsets =
    (U : List Task) (levels : List Level) (steps : List Step) (time : ℕ) (tasks : List ℕ) (aims : List Aim)
    → AreAims U levels steps time tasks aims → AreAtOffsets steps aims

-- jobs of a task that has an aim are steady until the end
abbrev pub AreTasksSteady : Type 0
AreTasksSteady =
    (U : List Task) (order : List ℕ) (until : ℕ) (aims : List Aim) (i : ℕ) (m : Aim) → IsTaskSet U → i < length U
    → own_aim i aims ≡ Some m
    → AreSteady (node_in U order) (jobs_of U (built_of U until aims)) until i
