-- Rows one below the other differ in their tones.
use Rattle.std.specs.Prelude.{ℕ, Bool, true, not, ◌&&◌, ◌==◌, if◌then◌else◌, Option, Some, None, List, [], ◌∷◌}
use Rattle.ceiling_kernel.specs.declared.trace.Release.{Release}
use Rattle.frames.specs.declared.rows.TaskRow.{TaskRow}
use Rattle.frames.specs.View.{is_chosen}
use Rattle.drawn_runs.specs.DrawnRows.{Looks}

-- a tone is another than one above, if there is one
abbrev pub differs : (above : Option ℕ) → (tone : ℕ) → Bool
differs None tone = true
differs (Some above) tone = not (above == tone)

-- below a tone, of the rows that are shown none has the tone of the one above it
abbrev pub are_apart_below : List (List ℕ) → List Release → (above : Option ℕ) → List TaskRow → Bool
are_apart_below names rs above [] = true
are_apart_below names rs above (row ∷ rows) =
    if is_chosen names rs row.sheet.name
    then differs above row.tone && are_apart_below names rs (Some row.tone) rows
    else are_apart_below names rs above rows

-- the same of all rows
abbrev pub are_apart : Looks → List TaskRow → Bool
are_apart looks rows = are_apart_below looks.names looks.releases None rows
