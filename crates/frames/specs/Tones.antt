-- Tones by name, which stay where numbers or levels change: a name has its own, or where a name before it has that, the next that is free.
use Rattle.std.specs.Prelude.{ℕ, zero, suc, ◌+◌, ◌-◌, ◌*◌, ◌%◌, ◌==◌, Bool, if◌then◌else◌, Option, Some, None, List, [], ◌∷◌, ◌++◌}
use Rattle.std.specs.List.{find, list_any}
use Rattle.std.specs.Option.{unwrap_or}
use Rattle.task_sheet.specs.Sheet.{same_bytes}
use Rattle.ceiling_kernel.specs.declared.trace.Release.{Release}
use Rattle.frames.specs.declared.rows.TaskRow.{TaskRow}
use Rattle.frames.specs.declared.tones.Toned.{Toned}
use Rattle.frames.specs.declared.tones.TheConstants.{HASH_LIMIT, TASK_TONES}
use Rattle.frames.specs.View.{is_chosen}

-- a sum of bytes behind what was found before, of which each one counts 31 times what the one behind it does
abbrev pub hash_from : ℕ → List ℕ → ℕ
hash_from hash [] = hash
hash_from hash (byte ∷ bytes) = hash_from ((31 * hash + byte) % HASH_LIMIT) bytes

-- the tone that a name has by itself, of so many
abbrev pub own_tone : (count : ℕ) → (name : List ℕ) → ℕ
own_tone count name = hash_from 0 name % count

-- one of some has the tone
abbrev pub has_tone : List Toned → (tone : ℕ) → Bool
has_tone given tone = list_any (λ (t : Toned). t.tone == tone) given

-- of so many tones from one on the first that none of some has
abbrev pub first_free : List Toned → (from count : ℕ) → Option ℕ
first_free given from zero = None
first_free given from (suc count) =
    if has_tone given from then first_free given (from + 1) count else Some from

-- of so many tones the first from one on that none of some has, else the first below it; that one where each is taken
abbrev pub free_tone : List Toned → (own count : ℕ) → ℕ
free_tone given own count =
    unwrap_or (first_free given own (count - own)) (unwrap_or (first_free given 0 own) own)

-- a name, and its tone behind those of some
abbrev pub toned_behind : (count : ℕ) → List Toned → List ℕ → Toned
toned_behind count given name = record {
  name = name;
  tone = free_tone given (own_tone count name) count;
}

-- the same of each of some names, one after the other
abbrev pub toned_after : (count : ℕ) → List Toned → List (List ℕ) → List Toned
toned_after count given [] = given
toned_after count given (name ∷ names) =
    toned_after count (given ++ toned_behind count given name ∷ []) names

-- the tones of names, of so many
abbrev pub tones_of : (count : ℕ) → List (List ℕ) → List Toned
tones_of count names = toned_after count [] names

-- a tone that was found, or the first
abbrev pub tone_found : Option Toned → ℕ
tone_found None = 0
tone_found (Some t) = t.tone

-- the tone of a name
abbrev pub tone_named : List Toned → List ℕ → ℕ
tone_named given name = tone_found (find (λ (t : Toned). same_bytes t.name name) given)

-- ---- of rows one below the other
-- the tone of a row below another: the next one, where that has its own
abbrev pub apart : (above : Option ℕ) → (tone : ℕ) → ℕ
apart None tone = tone
apart (Some above) tone = if above == tone then (tone % TASK_TONES + 1) % TASK_TONES else tone

-- the tone of the last row that is shown, or one that was found before
abbrev pub last_tone : List (List ℕ) → List Release → Option ℕ → List TaskRow → Option ℕ
last_tone names rs last [] = last
last_tone names rs last (row ∷ rows) =
    last_tone names rs (if is_chosen names rs row.sheet.name then Some row.tone else last) rows

-- the tone of a row below some rows: where it is shown, another than that of the shown one above it
abbrev pub fitted_tone : List (List ℕ) → List Release → (above : List TaskRow) → Toned → ℕ
fitted_tone names rs above t =
    if is_chosen names rs t.name then apart (last_tone names rs None above) t.tone else t.tone
