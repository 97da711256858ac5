-- The lines of a release list are read as that list.
use Rattle.std.proofs.Common.{◌≡◌, ℕ, ◌+◌, ◌^◌, ◌<◌, ◌≤◌, ◌==◌, inl, inr, true, false, List, []}
use Rattle.std.proofs.Common.{◌∷◌, ◌++◌, length, map, All, Option, Some, None, Ok, refl, sym, ap}
use Rattle.std.proofs.Common.{◌∙◌}
use Rattle.std.proofs.Common.{subst, append_assoc, arith, if◌then◌else◌}
use Rattle.std.specs.Prelude.{codes, IfSome}
use Rattle.std.specs.List.{AllByRecursion}
use Rattle.std.specs.Fmt.{decimal}
use Rattle.std.proofs.lemmas.Bool.{cases_Bool, eqb-true}
use Rattle.std.proofs.lemmas.List.{append-nil}
use Rattle.std.proofs.lemmas.List.Elements.{recursion_from_All}
use Rattle.task_sheet.proofs.Common.{Task, IsValidSheet, no_task, task_at, IsTaskSet, is_name}
use Rattle.task_sheet.proofs.Common.{IsName}
use Rattle.lines.specs.TextLines.{lines_of, is_skipped, kept_from}
use Rattle.lines.specs.Words.{number_in, name_in, words}
use Rattle.lines.proofs.NumberLaws.{number_again}
use Rattle.lines.proofs.Lacks.{Lacks, cut_at, joined_again, kept_word, lacks_append, lacks_in}
use Rattle.lines.proofs.Lacks.{name_lacks, number_lacks, one_more, uncut}
use Rattle.ceiling_kernel.specs.declared.trace.Release.{Release}
use Rattle.release_list.specs.Text.{late_words, runs_words, release_line, release_lines, list_lines}
use Rattle.release_list.specs.Reading.{until_in, rest_in, release_in, releases_from, IsWritable}
use Rattle.release_list.specs.Reading.{ReadsBack}
use Rattle.release_list.proofs.InLaws.{In, in_at}
use Rattle.release_list.proofs.Unrefused.{Executes, IsLegal}

-- ---- the lines without their ends
-- the line of a release
abbrev row : Release → List ℕ
row r = decimal r.time ++ 32 ∷ (r.name ++ (late_words r.late ++ runs_words r.runs))

-- the line of the end
abbrev head : ℕ → List ℕ
head until = codes "until" ++ 32 ∷ decimal until

-- the end of a line doesn't stand in them
late_lacks : (late : ℕ) → late < 10 ^ 10 → Lacks 10 (late_words late)
late_lacks late short = elim (cases_Bool (late == 0)) [
  | inl none ↦ rw none (lacks_in 10 [] refl)
  | inr some ↦ rw some (lacks_append 10 (codes " ") (decimal late) (lacks_in 10 (codes " ") refl)
      (number_lacks 10 late refl (omega arith)))
]

runs_lacks : (runs : Option ℕ) → IfSome runs (λ n. n < 10 ^ 10) → Lacks 10 (runs_words runs)
runs_lacks None short = lacks_in 10 [] refl
runs_lacks (Some n) short = lacks_append 10 (codes " runs ") (decimal n)
    (lacks_in 10 (codes " runs ") refl) (number_lacks 10 n refl (omega arith))

row_lacks : (r : Release) → IsWritable r → Lacks 10 (row r)
row_lacks r w =
    let rest = late_words r.late ++ runs_words r.runs in
    let back = lacks_append 10 r.name rest (name_lacks 10 r.name refl w.named)
    (lacks_append 10 (late_words r.late) (runs_words r.runs) (late_lacks r.late w.late)
    (runs_lacks r.runs w.runs)) in
    lacks_append 10 (decimal r.time) (32 ∷ (r.name ++ rest))
    (number_lacks 10 r.time refl (omega (arith, w.time))) (record { none = (refl, back.none) })

head_lacks : (until : ℕ) → until < 10 ^ 10 → Lacks 10 (head until)
head_lacks until short = lacks_append 10 (codes "until ") (decimal until)
    (lacks_in 10 (codes "until ") refl) (number_lacks 10 until refl (omega arith))

-- ---- the lines of the text
line_is : (r : Release) (rest : List ℕ) → release_line r ++ rest ≡ row r ++ 10 ∷ rest
line_is r rest = simp append_assoc

lines_are : (rs : List Release) → AllByRecursion IsWritable rs
    → lines_of (release_lines rs) ≡ map row rs
lines_are [] all = refl
lines_are (r ∷ rs) all =
    ap lines_of (line_is r (release_lines rs))
    ∙ one_more (row r) (release_lines rs) (row_lacks r all.0)
    ∙ ap (λ (x : List (List ℕ)). row r ∷ x) (lines_are rs all.1)

list_is : (until : ℕ) (rs : List Release)
    → list_lines until rs ≡ head until ++ 10 ∷ release_lines rs
list_is until rs = simp append_assoc

all_lines : (until : ℕ) (rs : List Release) → until < 10 ^ 10 → AllByRecursion IsWritable rs
    → lines_of (list_lines until rs) ≡ head until ∷ map row rs
all_lines until rs short all =
    ap lines_of (list_is until rs)
    ∙ one_more (head until) (release_lines rs) (head_lacks until short)
    ∙ ap (λ (x : List (List ℕ)). head until ∷ x) (lines_are rs all)

-- ---- the words of a line
some_digit : (n : ℕ) → n < 10 ^ 10 → 0 < length (decimal n)
some_digit n short = by (decimal n) (number_again n short)
  where
    by : (word : List ℕ) → number_in word ≡ Some n → 0 < length word
    by [] e = absurd cc
    by (x ∷ xs) e = omega arith

row_kept : (r : Release) → IsWritable r → is_skipped (row r) ≡ false
row_kept r w =
    kept_word (decimal r.time) (32 ∷ (r.name ++ (late_words r.late ++ runs_words r.runs)))
    (some_digit r.time w.time) (number_lacks 35 r.time refl (omega (arith, w.time)))

name_again : (name : List ℕ) → IsName name → name_in name ≡ Some name
name_again name named = (let e : is_name name ≡ true = named in rw e refl)

-- the words behind the name
abbrev runs_said : Option ℕ → List (List ℕ)
runs_said None = []
runs_said (Some n) = codes "runs" ∷ decimal n ∷ []

abbrev said : ℕ → Option ℕ → List (List ℕ)
said late runs = if late == 0 then runs_said runs else decimal late ∷ runs_said runs

number_whole : (n : ℕ) → n < 10 ^ 10 → Lacks 32 (decimal n)
number_whole n short = number_lacks 32 n refl (omega arith)

runs_behind : (word : List ℕ) (runs : Option ℕ) → Lacks 32 word → IfSome runs (λ n. n < 10 ^ 10)
    → words (word ++ runs_words runs) ≡ word ∷ runs_said runs
runs_behind word None plain short = ap words (append-nil word) ∙ uncut 32 word plain
runs_behind word (Some n) plain short = joined_again 32 word (codes "runs" ∷ decimal n ∷ []) plain
    (lacks_in 32 (codes "runs") refl, (number_whole n short, tt))

words_behind : (word : List ℕ) (late : ℕ) (runs : Option ℕ) → Lacks 32 word → late < 10 ^ 10
    → IfSome runs (λ n. n < 10 ^ 10)
    → words (word ++ (late_words late ++ runs_words runs)) ≡ word ∷ said late runs
words_behind word late runs plain short few = elim (cases_Bool (late == 0)) [
  | inl none ↦ rw none (runs_behind word runs plain few)
  | inr some ↦ rw some (cut_at 32 word (decimal late ++ runs_words runs) plain
      ∙ ap (λ (x : List (List ℕ)). word ∷ x)
      (runs_behind (decimal late) runs (number_whole late short) few))
]

-- ---- the release of a line
rest_again : (late : ℕ) (runs : Option ℕ) → late < 10 ^ 10 → IfSome runs (λ n. n < 10 ^ 10)
    → rest_in (said late runs) ≡ Some (late, runs)
rest_again late runs short few = elim (cases_Bool (late == 0)) [
  | inl none ↦ rw none (prompt runs few ∙ ap (λ l. Some (l, runs)) (sym (eqb-true late 0 none)))
  | inr some ↦ rw some (by runs few)
]
  where
    prompt : (runs : Option ℕ) → IfSome runs (λ n. n < 10 ^ 10)
        → rest_in (runs_said runs) ≡ Some (0, runs)
    prompt None few = refl
    prompt (Some n) few = rw (number_again n few) refl

    by : (runs : Option ℕ) → IfSome runs (λ n. n < 10 ^ 10)
        → rest_in (decimal late ∷ runs_said runs) ≡ Some (late, runs)
    by None few = rw (number_again late short) refl
    by (Some n) few = rw (number_again late short, number_again n few) refl

release_again : (r : Release) → IsWritable r → release_in (words (row r)) ≡ Some r
release_again r w =
    ap release_in (cut_at 32 (decimal r.time) (r.name ++ (late_words r.late ++ runs_words r.runs))
    (number_whole r.time w.time) ∙ ap (λ (x : List (List ℕ)). decimal r.time ∷ x)
    (words_behind r.name r.late r.runs (name_lacks 32 r.name refl w.named) w.late w.runs))
    ∙ rw (
      number_again r.time w.time,
      name_again r.name w.named,
      rest_again r.late r.runs w.late w.runs,
    ) refl

until_again : (until : ℕ) → until < 10 ^ 10 → until_in (words (head until)) ≡ Some until
until_again until short =
    ap until_in (joined_again 32 (codes "until") (decimal until ∷ [])
    (lacks_in 32 (codes "until") refl) (number_whole until short, tt))
    ∙ number_again until short

-- ---- the list
releases_again : (n : ℕ) (rs : List Release) → AllByRecursion IsWritable rs
    → releases_from (kept_from n (map row rs)) ≡ Ok rs
releases_again n [] all = refl
releases_again n (r ∷ rs) all =
    rw (row_kept r all.0, release_again r all.0, releases_again (n + 1) rs all.1) refl

pub list_again : (until : ℕ) (rs : List Release) → until < 10 ^ 10 → All IsWritable rs
    → ReadsBack until rs
list_again until rs short all =
    let each : AllByRecursion IsWritable rs = recursion_from_All IsWritable rs all in
    rw (all_lines until rs short each)
    (rw (until_again until short, releases_again 2 rs each) refl)

-- so is one of legal jobs that ends within the horizon
pub legal_again : {U : List Task} (until : ℕ) (rs : List Release) → IsTaskSet U → until ≤ 60000000
    → ((r : Release) → In r rs → IsLegal U until r) → ReadsBack until rs
legal_again {U} until rs set small legal =
    list_again until rs (omega arith) (λ k d lt. writable (legal _ (in_at rs k d lt)))
  where
    some_few : (o : Option ℕ) (cost : ℕ) → Executes cost o → cost < 10 ^ 10
        → IfSome o (λ n. n < 10 ^ 10)
    some_few None cost executes few = tt
    some_few (Some n) cost executes few = omega (arith, executes.1)

    writable : {r : Release} → IsLegal U until r → IsWritable r
    writable {r} l =
        let v : IsValidSheet (task_at U l.task) = set.valid l.task no_task l.in_set in
        record {
          time = omega (arith, l.before);
          named = subst IsName (sym l.named) v.named;
          late = omega (arith, l.before);
          runs = some_few r.runs (task_at U l.task).cost l.executes
              (omega (arith, v.cost_to, v.period_to));
        }
