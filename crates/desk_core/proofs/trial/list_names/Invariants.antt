use Rattle.std.proofs.Common.{◌≡◌, ◌≤◌, ℕ, List, length, map, vec_len, vec_capacity}
use Rattle.task_sheet.proofs.Common.{Task, task_at, Indexes, indexes_of, listed_below}
use Rattle.desk_core.proofs.trial.list_names.Given as goal

pub record Listed (U : List Task) (L : Indexes) (n : ℕ) (items : List (List ℕ))
    (len capacity : ℕ) : Type 0 where
  pub so_far : items ≡ map (λ i. (task_at U i).name) (listed_below n L)
  pub few : len ≤ n
  pub room : length U ≤ capacity

abbrev pub invariant-loop-task : goal.invariant-loop-task
invariant-loop-task l =
    Listed l.set (indexes_of l.tasks) l.task l.names.items (vec_len l.names) (vec_capacity l.names)
