-- By which lock a task below blocks.
use Rattle.std.specs.Prelude.{ℕ, ◌+◌, ◌-◌, min, Bool, if◌then◌else◌, Option, None, List, [], ◌∷◌, take}
use Rattle.std.specs.List.{list_any, find}
use Rattle.task_sheet.specs.Sheet.{CriticalSection}
use Rattle.task_sheet.specs.Locks.{uses}
use Rattle.ceiling_kernel.specs.declared.trace.Slice.{Slice}
use Rattle.ceiling_kernel.specs.Tick.{is_inside}
use Rattle.frames.specs.declared.rows.TaskRow.{TaskRow}
use Rattle.frames.specs.PictureRows.{row_at}
use Rattle.frames.specs.Slices.{slice_at, executed_in}

-- the ceiling of a lock is the level of row k, or above: a task from there up uses it
abbrev pub is_raised : List TaskRow → (k : ℕ) → List ℕ → Bool
is_raised rows k lock = list_any (λ r. uses r.sheet lock) (take (k + 1) rows)

-- of the first section that a job is inside after e ticks, the first such lock
abbrev pub lock_inside : List TaskRow → (k e : ℕ) → List CriticalSection → Option (List ℕ)
lock_inside rows k e [] = None
lock_inside rows k e (x ∷ sections) =
    if is_inside x e then find (is_raised rows k) x.locks else lock_inside rows k e sections

-- how many ticks the job of slice n has executed at a time in it; before it no more than the slice's start
abbrev pub executed_at : List Slice → (n time : ℕ) → ℕ
executed_at slices n time =
    min (executed_in slices n (slice_at slices n).job) (slice_at slices n).start
    + (time - (slice_at slices n).start)

-- the lock by which the job of slice n, of row m, blocks row k from a time on
abbrev pub blocking_lock : List TaskRow → List Slice → (k n time m : ℕ) → Option (List ℕ)
blocking_lock rows slices k n time m =
    lock_inside rows k (executed_at slices n time) (row_at rows m).sheet.sections
