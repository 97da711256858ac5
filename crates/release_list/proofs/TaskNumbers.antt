-- The tasks of a set by their names.
use Rattle.std.proofs.Common.{◌≡◌, ℕ, ◌<◌, true, nat_lt, List, length, Some}
use Rattle.std.proofs.lemmas.Bool.{lt-ltb}
use Rattle.task_sheet.proofs.Common.{Task, task_at, AreDistinct, same_name}
use Rattle.task_sheet.proofs.TaskLaws.{place_of_name}
use Rattle.ceiling_kernel.proofs.Common.{task_named}

-- the task at an index is found by its name
pub found : (U : List Task) → AreDistinct same_name U → (k : ℕ) → k < length U
    → task_named U (task_at U k).name ≡ Some k
found U distinct k lt =
    let at = place_of_name U distinct k lt in
    let small : nat_lt k (length U) ≡ true = lt-ltb k (length U) lt in
    rw (at, small)
