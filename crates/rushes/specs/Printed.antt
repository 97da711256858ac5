-- What is printed of a log and of the state that it comes to.
use Rattle.std.specs.Prelude.{◌≡◌, ℕ, ◌+◌, List, [], ◌∷◌, ◌++◌, codes}
use Rattle.std.specs.Fmt.{decimal}
use Rattle.drafts.specs.Books.{Book}
use Rattle.drafts.specs.Machine.{Entry}
use Rattle.scripts.specs.declared.line.Line.{Line}
use Rattle.plays.specs.Printed.{edit_word, ruling_line}
use Rattle.plays.specs.Plays.{IsBookText}
use Rattle.rushes.specs.Hands.{IsRushed}
use Rattle.rushes.specs.declared.note.Missed.{Missed}
use Rattle.rushes.specs.declared.note.Missed.TheVariants.{PutRefused, RemoveRefused, Ended}
use Rattle.rushes.specs.declared.note.Note.{Note}

-- an entry: its place, its team, and the decision as `play` prints it
abbrev pub entry_line : ℕ → Entry → List ℕ
entry_line place e =
    decimal place ++ codes " team " ++ decimal e.team ++ codes " " ++ ruling_line e.decision

-- a line for each entry, of which the first has a place
abbrev pub log_lines : ℕ → List Entry → List ℕ
log_lines place [] = []
log_lines place (e ∷ log) = entry_line place e ++ log_lines (place + 1) log

-- the log's lines, and then the book's
abbrev pub IsBookLog : Book → List ℕ → Type 0
IsBookLog b text = (book : List ℕ) × IsBookText b.desk book × (text ≡ log_lines 1 b.log ++ book)

-- ---- what is reported of lines that did nothing
-- why a line did nothing: why an edit is refused is reported as `play` reports it
abbrev pub missed_words : Missed → List ℕ
missed_words (PutRefused name refusal) = codes "put " ++ name ++ codes ": " ++ edit_word refusal
missed_words (RemoveRefused name refusal) =
    codes "remove " ++ name ++ codes ": " ++ edit_word refusal
missed_words (Ended draft) = codes "skipped, draft " ++ decimal draft ++ codes " has ended"

-- a line that did nothing: its number, and why
abbrev pub note_line : Note → List ℕ
note_line n = codes "line " ++ decimal n.line ++ codes ": " ++ missed_words n.missed ++ codes "\n"

-- each in its line
abbrev pub note_lines : List Note → List ℕ
note_lines [] = []
note_lines (n ∷ notes) = note_line n ++ note_lines notes

-- those of all teams
abbrev pub all_note_lines : List (List Note) → List ℕ
all_note_lines [] = []
all_note_lines (notes ∷ rest) = note_lines notes ++ all_note_lines rest

-- ---- both
-- what the threads of all teams may come to is printed, and what is reported of their lines, by team and then by line
abbrev pub IsRushText : ℕ → List Line → List ℕ → List ℕ → Type 0
IsRushText workers lines text told =
    (b : Book) × (notes : List (List Note)) × IsRushed workers lines b notes × IsBookLog b text
    × (told ≡ all_note_lines notes)
