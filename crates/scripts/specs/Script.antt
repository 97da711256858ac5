-- The lines of a script.
use Rattle.std.specs.Prelude.{◌≡◌, ℕ, ◌+◌, List, [], ◌∷◌, Result, Ok, Err}
use Rattle.lines.specs.Words.{words}
use Rattle.lines.specs.TextLines.{kept_lines}
use Rattle.lines.specs.Steps.{◌>>=◌, ahead}
use Rattle.scripts.specs.declared.line.Line.{Line}
use Rattle.scripts.specs.declared.line.Row.{Row}
use Rattle.scripts.specs.declared.line.Row.TheVariants.{Open}
use Rattle.scripts.specs.declared.line.RowFault.{RowFault}
use Rattle.scripts.specs.declared.line.RowFault.TheVariants as row
use Rattle.scripts.specs.declared.line.ScriptFault.{ScriptFault}
use Rattle.scripts.specs.declared.line.ScriptFault.TheVariants.{BadLine, Sheet, BadJitter, Outranks, BadOverhead, BadInterrupt, OutOfMemory}
use Rattle.scripts.specs.ScriptWords.{row_in}

-- how many drafts were opened, after a line
abbrev pub opened_after : ℕ → Row → ℕ
opened_after opened (Open team) = opened + 1
opened_after opened _ = opened

-- the fault of the line with this number
abbrev pub fault_at : ℕ → RowFault → ScriptFault
fault_at number row.Bad = BadLine number
fault_at number (row.Sheet cause) = Sheet number cause
fault_at number row.BadJitter = BadJitter number
fault_at number (row.Outranks cause) = Outranks number cause
fault_at number row.BadOverhead = BadOverhead number
fault_at number row.BadInterrupt = BadInterrupt number
fault_at number row.OutOfMemory = OutOfMemory

-- a row with the number of its line, or its fault there
abbrev pub line_of : ℕ → Result Row RowFault → Result Line ScriptFault
line_of number (Ok row) = Ok (record { number = number; row = row })
line_of number (Err fault) = Err (fault_at number fault)

-- what numbered lines say, where so many drafts were opened above them; or the fault of the first faulty one
unfoldable pub script_from : ℕ → List (ℕ × List ℕ) → Result (List Line) ScriptFault
script_from opened [] = Ok []
script_from opened (l ∷ ls) =
    line_of l.0 (row_in opened (words l.1)) >>= λ line.
    ahead (line ∷ []) (script_from (opened_after opened line.row) ls)

-- what the lines of a text say that are not skipped, or the fault of the first faulty one
abbrev pub script_in : List ℕ → Result (List Line) ScriptFault
script_in text = script_from 0 (kept_lines text)

-- the fault is that of the reading, or out of memory
abbrev pub IsFault : ScriptFault → Result (List Line) ScriptFault → Type 0
IsFault OutOfMemory read = Unit {0}
IsFault fault read = read ≡ Err fault
