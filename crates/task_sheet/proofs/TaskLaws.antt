-- Valid sheets have what the laws of the analysis need, and a task of a set is found by its name.
use Rattle.std.proofs.Common.{◌≡◌, ℕ, ◌+◌, ◌<◌, ◌≤◌, List, [], ◌∷◌, length, get_or, ap, ◌∙◌, arith}
use Rattle.std.specs.List.{AllByRecursion, position_or_len}
use Rattle.std.proofs.lemmas.List.{get_or_read}
use Rattle.std.proofs.lemmas.List.Elements.{All-from_recursion}
use Rattle.std.proofs.lemmas.List.Sums.{position_or_len_is}
use Rattle.std.proofs.lemmas.Map.Keys.{apart_from_distinct}
use Rattle.task_sheet.specs.Sheet.{CriticalSection, Task, AreSections, IsValidSheet, IsTask}
use Rattle.task_sheet.specs.Sheet.{AllTasks, no_task, task_at, same_bytes}
use Rattle.task_sheet.specs.TaskSet.{IsTaskSet, AreDistinct, same_name}
use Rattle.task_sheet.proofs.Distinct.{std_distinct}
use Rattle.task_sheet.proofs.NameLaws.{same_own}

sections-end : (from cost : ℕ) (ss : List CriticalSection) → AreSections from cost ss
    → AllByRecursion (λ s. s.at + s.len ≤ cost) ss
sections-end from cost [] h = tt
sections-end from cost (s ∷ ss) h = (h.0.within, sections-end (s.at + s.len) cost ss h.1)

pub IsTask-from_valid : (x : Task) → IsValidSheet x → IsTask x
IsTask-from_valid x valid = record {
  period = omega (arith, valid.period_from);
  jitter = valid.jitter;
  cost = valid.cost_from;
  within = All-from_recursion (λ (s : CriticalSection). s.at + s.len ≤ x.cost) x.sections
      (sections-end 0 x.cost x.sections valid.sections);
}

-- the tasks of a set meet the premise of the laws
pub AllTasks-from_set : (U : List Task) → IsTaskSet U → AllTasks U
AllTasks-from_set U set k d lt = IsTask-from_valid _ (set.valid k d lt)

pub valid_at : (U : List Task) (k : ℕ) → IsTaskSet U → k < length U → IsValidSheet (task_at U k)
valid_at U k set lt = set.valid k no_task lt

-- a sheet that is read from a set's sheets
pub task_read : (U V : List Task) (k : ℕ) (x : Task) → V ≡ U → k < length U → x ≡ get_or V k x
    → x ≡ task_at U k
task_read U V k x same lt is = get_or_read U k x lt (is ∙ ap (λ W. get_or W k x) same) no_task

-- the first task that has the name of the task at an index is that task
pub place_of_name : (U : List Task) → AreDistinct same_name U → (k : ℕ) → k < length U
    → position_or_len (λ s. same_bytes s.name (task_at U k).name) U ≡ k
place_of_name U distinct k lt = position_or_len_is
    (λ (s : Task). same_bytes s.name (task_at U k).name) U k no_task (omega arith)
    (λ j below. apart_from_distinct same_name U j k no_task (std_distinct same_name U distinct)
    below lt)
    (λ _. same_own (task_at U k).name)
