-- What the text of a release list says.
use Rattle.std.specs.Prelude.{◌≡◌, ℕ, ◌+◌, ◌<◌, ◌^◌, List, [], ◌∷◌, length, Option, option_map, Some, None, IfSome, ok_or, Result, Ok, Err, bytes_eq, codes, if◌then◌else◌}
use Rattle.task_sheet.specs.Name.{IsName}
use Rattle.lines.specs.TextLines.{kept_from, lines_of, rows_by}
use Rattle.lines.specs.Steps.{◌>>=◌}
use Rattle.lines.specs.Words.{name_in, number_in, words}
use Rattle.ceiling_kernel.specs.declared.trace.Release.{Release}
use Rattle.release_list.specs.Text.{list_lines}
use Rattle.release_list.specs.declared.reading.TextFault.{TextFault}
use Rattle.release_list.specs.declared.reading.TextFault.TheVariants.{BadLine, OutOfMemory}

-- ---- a line
-- the number of a line `until N`
abbrev pub until_in : List (List ℕ) → Option ℕ
until_in [] = None
until_in (word ∷ []) = None
until_in (word ∷ number ∷ []) = if bytes_eq word (codes "until") then number_in number else None
until_in (word ∷ number ∷ more ∷ rest) = None

-- for how long a job executes, by the words `runs N`
abbrev pub runs_in : List ℕ → List ℕ → Option ℕ
runs_in word number = if bytes_eq word (codes "runs") then number_in number else None

-- a lateness and how long a job executes, where the words for them say them
abbrev pub pair_of : Option ℕ → Option (Option ℕ) → Option (ℕ × Option ℕ)
pair_of None runs = None
pair_of (Some late) None = None
pair_of (Some late) (Some runs) = Some (late, runs)

-- how late a release is, and for how long its job executes, by the words behind its name: `LATE`, `runs N`, both or none
abbrev pub rest_in : List (List ℕ) → Option (ℕ × Option ℕ)
rest_in [] = Some (0, None)
rest_in (late ∷ []) = pair_of (number_in late) (Some None)
rest_in (word ∷ number ∷ []) = pair_of (Some 0) (option_map Some (runs_in word number))
rest_in (late ∷ word ∷ number ∷ []) =
    pair_of (number_in late) (option_map Some (runs_in word number))
rest_in (late ∷ word ∷ number ∷ more ∷ rest) = None

-- a release, where the words for its time, its name and the rest say them
abbrev pub release_read : Option ℕ → Option (List ℕ) → Option (ℕ × Option ℕ) → Option Release
release_read None name rest = None
release_read (Some time) None rest = None
release_read (Some time) (Some name) None = None
release_read (Some time) (Some name) (Some rest) =
    Some (record { time = time; name = name; late = rest.0; runs = rest.1 })

-- the release of a line `TIME NAME`, which isn't late, or `TIME NAME LATE`; its job executes its task's cost, or with
-- `runs N` behind that so long
abbrev pub release_in : List (List ℕ) → Option Release
release_in [] = None
release_in (time ∷ []) = None
release_in (time ∷ name ∷ rest) = release_read (number_in time) (name_in name) (rest_in rest)

-- ---- a text
-- the releases of numbered lines, or the number of the first faulty line
abbrev pub releases_from : List (ℕ × List ℕ) → Result (List Release) ℕ
releases_from ls = rows_by (λ line. release_in) ls

-- of numbered lines the first is `until N`, and each other is a release; where there is no line, a given number is at fault
abbrev pub list_from : ℕ → List (ℕ × List ℕ) → Result (ℕ × List Release) ℕ
list_from past [] = Err past
list_from past (l ∷ ls) =
    ok_or (until_in (words l.1)) l.0 >>= λ until. releases_from ls >>= λ rs. Ok (until, rs)

-- the end and the releases of lines, the first of which has a number: where there is none, the fault is one past the last
abbrev pub list_at : ℕ → List ℕ → Result (ℕ × List Release) ℕ
list_at line rest = list_from (line + length (lines_of rest)) (kept_from line (lines_of rest))

-- a fault is the first faulty line of the reading, or out of memory
abbrev pub IsTextFault : TextFault → Result (ℕ × List Release) ℕ → Type 0
IsTextFault (BadLine line) read = read ≡ Err line
IsTextFault OutOfMemory read = Unit {0}

-- ---- what is written is read
-- a release whose numbers have ten digits at most, and whose name is one
pub record IsWritable (r : Release) : Type 0 where
  pub time : r.time < 10 ^ 10
  pub named : IsName r.name
  pub late : r.late < 10 ^ 10
  pub runs : IfSome r.runs (λ runs. runs < 10 ^ 10)

-- what the lines of a list say is the list
abbrev pub ReadsBack : ℕ → List Release → Type 0
ReadsBack until rs = list_at 1 (list_lines until rs) ≡ Ok (until, rs)
