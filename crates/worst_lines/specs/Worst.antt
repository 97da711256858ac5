-- The worst case of a task in an order: what its job came to there, or what is shown of a task that may not be placed there.
use Rattle.std.specs.Prelude.{◌≡◌, ◌⊎◌, ℕ, List, length, Option, Some, None, IsTrue, IsFalse, if◌then◌else◌}
use Rattle.task_sheet.specs.Sheet.{Task}
use Rattle.task_sheet.specs.Indexes.{Indexes, indexes_of}
use Rattle.assignment.specs.Placings.{tasks_of_places}
use Rattle.assignment.specs.declared.placing.Placing.{Placing}
use Rattle.assignment.specs.declared.placing.Placing.TheVariants.{Best, Stuck}
use Rattle.ceiling_kernel.specs.Tick.{node_in}
use Rattle.explain.specs.Conflict.{IsLeftOf}
use Rattle.judge.specs.Judgements.{all_meet, does_meet}
use Rattle.judge.specs.declared.judging.JudgedTask.{JudgedTask}
use Rattle.judge.specs.declared.judging.Judgement.TheVariants.{Meets}
use Rattle.miss.specs.Reached.{IsReachedOf}
use Rattle.miss.specs.Shown.{IsShown}
use Rattle.worst_lines.specs.Asked.{highest_failing, judged_at, tightest}
use Rattle.worst_lines.specs.Below.{IsOrderBelow}
use Rattle.worst_lines.specs.Deciding.{IsDeciding}
use Rattle.worst_lines.specs.declared.worst.Worst.{Worst}
use Rattle.worst_lines.specs.declared.worst.Worst.TheVariants.{Comes, Fails}

-- the order in which a refused set is looked at for a task: for one of its conflict C that below the others of C; else one
-- that decides
abbrev pub IsOrderFor : List Task → Indexes → Option ℕ → List ℕ → Type 0
IsOrderFor U C None order = IsDeciding U order
IsOrderFor U C (Some task) order =
    (IsTrue (C task) × IsOrderBelow U C task order) ⊎ (IsFalse (C task) × IsDeciding U order)

-- the order in which a set is looked at: the best one; of a refused set that for the task that is asked about, by the
-- minimal conflict
abbrev pub IsLookedAtIn : List Task → Placing → (asked : Option ℕ) → List ℕ → Type 0
IsLookedAtIn U (Best places) asked order = order ≡ tasks_of_places places.items
IsLookedAtIn U (Stuck greatest) asked order =
    (C : Indexes) × IsLeftOf U (indexes_of greatest) (length U) C × IsOrderFor U C asked order

-- whose worst case is shown: that of the task that is asked about; else, where all meet their deadlines, that of the one of
-- least slack, and else that of the highest that doesn't
abbrev pub chosen : List Task → Option ℕ → List JudgedTask → Option JudgedTask
chosen U (Some task) judged = judged_at task judged
chosen U None judged = if all_meet judged then tightest U judged else highest_failing judged

-- what is shown of a task's worst case in an order: of one that meets its deadline what its job came to there; of another a
-- run in which it misses it, or why it is none
abbrev pub IsWorstOf : List Task → List ℕ → JudgedTask → Worst → Type 0
IsWorstOf U order j (Comes bound reached) =
    (j.judgement ≡ Meets bound) × IsReachedOf (node_in U order) j.task reached
IsWorstOf U order j (Fails shown) =
    IsFalse (does_meet j.judgement) × IsShown (node_in U order) j.task shown
