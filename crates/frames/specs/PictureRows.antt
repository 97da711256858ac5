-- The rows of the picture, and texts one after the other.
use Rattle.std.specs.Prelude.{ℕ, zero, suc, ◌==◌, nat_lt, if◌then◌else◌, Option, Some, None, List, [], ◌++◌, length, position, slice_index, slice_index_or}
use Rattle.task_sheet.specs.Sheet.{no_task, same_bytes}
use Rattle.ceiling_kernel.specs.declared.trace.JobRecord.{JobRecord}
use Rattle.ceiling_kernel.specs.Runs.{no_record}
use Rattle.frames.specs.declared.rows.TaskRow.{TaskRow}
use Rattle.frames.specs.declared.rows.Spot.{Spot}

-- the texts of the numbers below n, one after the other
unfoldable pub each : ℕ → (ℕ → List ℕ) → List ℕ
each zero text = []
each (suc n) text = each n text ++ text n

-- stands past the end of some rows
abbrev pub no_row : TaskRow
no_row = record { sheet = no_task; bound = None; number = None; tone = 0; unrun = 0 }

-- the row at a place, from 0
abbrev pub row_at : List TaskRow → ℕ → TaskRow
row_at rows k = slice_index_or rows k no_row

-- the name of the task of a row
abbrev pub name_in : List TaskRow → ℕ → List ℕ
name_in rows k = (row_at rows k).sheet.name

-- the tone of a row
abbrev pub tone_in : List TaskRow → ℕ → ℕ
tone_in rows k = (row_at rows k).tone

-- the job at a place, from 0
abbrev pub record_at : List JobRecord → ℕ → JobRecord
record_at jobs i = slice_index_or jobs i no_record

-- the place of the row of the task with a name
abbrev pub row_named : List TaskRow → List ℕ → Option ℕ
row_named rows name = position (λ r. same_bytes r.sheet.name name) rows

-- a text for a row, if there is one
abbrev pub in_row : List TaskRow → (ℕ → TaskRow → List ℕ) → Option ℕ → List ℕ
in_row rows text None = []
in_row rows text (Some k) = text k (row_at rows k)

-- a text for the row of the task with a name
abbrev pub on_row : List TaskRow → List ℕ → (ℕ → TaskRow → List ℕ) → List ℕ
on_row rows name text = in_row rows text (row_named rows name)

-- ---- the rows that are shown, by their ranks
-- the place of a row among them
abbrev pub place_in : (shown : List ℕ) → (rank : ℕ) → Option ℕ
place_in shown rank = position (λ r. r == rank) shown

-- the spot of a place
abbrev pub spot_in : (shown : List ℕ) → ℕ → Spot
spot_in shown k = record { rank = slice_index shown k; k = k }

-- the spot of a row, if it is shown
abbrev pub spot_at : (rank : ℕ) → Option ℕ → Option Spot
spot_at rank None = None
spot_at rank (Some k) = Some (record { rank = rank; k = k })

-- the same, where there is a row
abbrev pub spot_of : (shown : List ℕ) → Option ℕ → Option Spot
spot_of shown None = None
spot_of shown (Some rank) = spot_at rank (place_in shown rank)

-- the spot of the task with a name
abbrev pub spot_named : List TaskRow → (shown : List ℕ) → List ℕ → Option Spot
spot_named rows shown name = spot_of shown (row_named rows name)

-- a text for a spot, if there is one
abbrev pub in_spot : List TaskRow → (Spot → TaskRow → List ℕ) → Option Spot → List ℕ
in_spot rows text None = []
in_spot rows text (Some s) = text s (row_at rows s.rank)

-- a text for the spot of the task with a name
abbrev pub on_spot : List TaskRow → (shown : List ℕ) → List ℕ → (Spot → TaskRow → List ℕ) → List ℕ
on_spot rows shown name text = in_spot rows text (spot_named rows shown name)

-- a text for a spot, where a row stands there
abbrev pub at_spot : List TaskRow → Spot → (Spot → TaskRow → List ℕ) → List ℕ
at_spot rows s text = if nat_lt s.rank (length rows) then text s (row_at rows s.rank) else []

-- a text for each place
abbrev pub at_places : List TaskRow → (shown : List ℕ) → (Spot → TaskRow → List ℕ) → List ℕ
at_places rows shown text = each (length shown) (λ k. at_spot rows (spot_in shown k) text)

-- a text for a job, if there is one
abbrev pub of_job : (JobRecord → List ℕ) → Option JobRecord → List ℕ
of_job text None = []
of_job text (Some job) = text job
