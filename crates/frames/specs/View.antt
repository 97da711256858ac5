-- What part of a run is drawn, and how.
use Rattle.std.specs.Prelude.{ℕ, min, max, Bool, ◌==◌, nat_le, if◌then◌else◌, List, [], ◌∷◌, ◌++◌, length}
use Rattle.std.specs.List.{list_any, filter, range_with_len}
use Rattle.std.specs.Option.{unwrap_or}
use Rattle.task_sheet.specs.Sheet.{same_bytes}
use Rattle.ceiling_kernel.specs.declared.accept.TheConstants.{HORIZON}
use Rattle.ceiling_kernel.specs.declared.trace.Release.{Release}
use Rattle.frames.specs.declared.rows.TaskRow.{TaskRow}
use Rattle.frames.specs.declared.view.View.{View}
use Rattle.frames.specs.PictureRows.{name_in}

-- ---- the window
-- a run ends within the horizon, and takes at least a microsecond
abbrev pub end_of_run : (until : ℕ) → ℕ
end_of_run until = max (min until HORIZON) 1

-- the window ends where that is said, and at the latest with the run
abbrev pub window_end : View → (until : ℕ) → ℕ
window_end v until = min (unwrap_or v.to (end_of_run until)) (end_of_run until)

-- nothing lies in it
abbrev pub is_empty : View → (until : ℕ) → Bool
is_empty v until = nat_le (window_end v until) v.from

-- how many pixels a picture is wide on paper of an A size, where that isn't said
abbrev pub paper_width : (size : ℕ) → ℕ
paper_width size = if size == 3 then 2080 else 1470

-- ---- the rows
-- some names have one among them
abbrev pub is_among : List (List ℕ) → List ℕ → Bool
is_among names name = list_any (λ n. same_bytes n name) names

-- a task has a release in a list
abbrev pub is_released : List Release → List ℕ → Bool
is_released rs name = list_any (λ (r : Release). same_bytes r.name name) rs

-- a task has a row: it is named; where none is, the list has a release of it
abbrev pub is_chosen : List (List ℕ) → List Release → List ℕ → Bool
is_chosen names rs name =
    if length names == 0 then is_released rs name else is_among names name

-- some ranks, and one more where its row is shown
abbrev pub noted_rank : List ℕ → (rank : ℕ) → Bool → List ℕ
noted_rank ranks rank shown = if shown then ranks ++ rank ∷ [] else ranks

-- the rows that are shown, by their ranks from 0
abbrev pub shown_of : List (List ℕ) → List Release → List TaskRow → List ℕ
shown_of names rs rows =
    filter (λ rank. is_chosen names rs (name_in rows rank)) (range_with_len 0 (length rows))
