-- Lines of a text.
use Rattle.std.specs.Prelude.{ℕ, ◌+◌, ◌==◌, Bool, true, List, [], ◌∷◌, Option, ok_or, Result, if◌then◌else◌}
use Rattle.std.specs.List.{slice_split}
use Rattle.lines.specs.Steps.{each_in}
use Rattle.lines.specs.Words.{words}

-- a text, cut at each line end: what stands behind the last line end is the last part
abbrev pub parts : List ℕ → List (List ℕ)
parts text = slice_split (λ b. b == 10) text

-- without a last part that is empty
abbrev pub without_rest : List (List ℕ) → List (List ℕ)
without_rest [] = []
without_rest ([] ∷ []) = []
without_rest ((c ∷ cs) ∷ []) = (c ∷ cs) ∷ []
without_rest (p ∷ q ∷ ps) = p ∷ without_rest (q ∷ ps)

-- the lines, each ended by LF; the last may lack its own
abbrev pub lines_of : List ℕ → List (List ℕ)
lines_of text = without_rest (parts text)

-- an empty line, or one that begins with `#`
abbrev pub is_skipped : List ℕ → Bool
is_skipped [] = true
is_skipped (c ∷ cs) = c == 35

-- of lines, the first of which has a number: those that are not skipped, each with its number
abbrev pub kept_from : ℕ → List (List ℕ) → List (ℕ × List ℕ)
kept_from number [] = []
kept_from number (l ∷ ls) =
    if is_skipped l then kept_from (number + 1) ls
    else (number, l) ∷ kept_from (number + 1) ls

-- the lines of a text that are not skipped, each with its number; the first line has the number 1
abbrev pub kept_lines : List ℕ → List (ℕ × List ℕ)
kept_lines text = kept_from 1 (lines_of text)

-- what numbered lines say, each by its number and words, or the number of the first faulty one
abbrev pub rows_by : {A : Type 0} → (ℕ → List (List ℕ) → Option A) → List (ℕ × List ℕ)
    → Result (List A) ℕ
rows_by row_in ls = each_in (λ l. ok_or (row_in l.0 (words l.1)) l.0) ls
