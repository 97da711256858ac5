-- A release list as text: the line `until N`, and then for each release a line `TIME NAME`, `TIME NAME LATE` where it is
-- late, with `runs N` behind it where it says for how long its job executes.
use Rattle.std.specs.Prelude.{ℕ, Option, Some, None, List, [], ◌∷◌, ◌++◌, ◌==◌, codes, if◌then◌else◌}
use Rattle.std.specs.Fmt.{decimal}
use Rattle.ceiling_kernel.specs.declared.trace.Release.{Release}

-- how late a release is, where it is late
abbrev pub late_words : ℕ → List ℕ
late_words late = if late == 0 then [] else codes " " ++ decimal late

-- for how long its job executes, where it says so
abbrev pub runs_words : Option ℕ → List ℕ
runs_words None = []
runs_words (Some runs) = codes " runs " ++ decimal runs

-- a release: when it arrives, its task, how late it is, and for how long its job executes
abbrev pub release_line : Release → List ℕ
release_line r =
    decimal r.time ++ codes " " ++ r.name ++ late_words r.late ++ runs_words r.runs ++ codes "\n"

-- a line for each release
abbrev pub release_lines : List Release → List ℕ
release_lines [] = []
release_lines (r ∷ rs) = release_line r ++ release_lines rs

-- the end of the run, and then the releases
abbrev pub list_lines : ℕ → List Release → List ℕ
list_lines until rs = codes "until " ++ decimal until ++ codes "\n" ++ release_lines rs
