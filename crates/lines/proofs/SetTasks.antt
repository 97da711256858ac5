-- The task that is got at an index of a set, and past its end.
use Rattle.std.proofs.Common.{◌≡◌, ◌∙◌, ℕ, List, Option, ap, unwrap_or, slice_get}
use Rattle.std.proofs.lemmas.Option.{unwrap_or-slice_get}
use Rattle.task_sheet.specs.Sheet.{Task, no_task, task_at}

pub task_got : (U : List Task) (k : ℕ) (got : Option Task) → got ≡ slice_get U k
    → unwrap_or got no_task ≡ task_at U k
task_got U k got is = ap (λ o. unwrap_or o no_task) is ∙ unwrap_or-slice_get U k no_task
