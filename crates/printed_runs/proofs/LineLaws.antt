-- The lines of slices and of jobs are read back.
use Rattle.std.proofs.Common.{◌≡◌, ◌∙◌, ◌==◌, ◌+◌, ◌<◌, ◌≤◌, ◌^◌, ℕ, suc, true, false, List, []}
use Rattle.std.proofs.Common.{◌∷◌, ◌++◌, map, length, codes, bytes_eq, Option, Some, None, Result}
use Rattle.std.proofs.Common.{Ok, Err, IfSome, inl, inr, refl, sym, ap, subst, arith, append_assoc}
use Rattle.std.proofs.Common.{slice_index_or}
use Rattle.std.specs.List.{join_with_byte, AllByRecursion}
use Rattle.std.specs.Char.{is_ascii_digit}
use Rattle.std.specs.Fmt.{decimal}
use Rattle.std.proofs.lemmas.Bool.{cases_Bool, le-leb, lt-ltb, true≢false}
use Rattle.std.proofs.lemmas.Fmt.{decimal_nonempty}
use Rattle.std.proofs.lemmas.Slice.Eq.{bytes_eq-Decides}
use Rattle.task_sheet.specs.Name.{IsName, is_name, is_name_byte}
use Rattle.lines.specs.TextLines.{is_skipped, kept_from, lines_of}
use Rattle.lines.specs.Steps.{ahead}
use Rattle.lines.specs.Words.{words}
use Rattle.lines.proofs.NumberLaws.{number_again}
use Rattle.lines.proofs.Lacks.{Lacks, joined_again, joined_lacks, kept_word, lacks_in, name_lacks}
use Rattle.lines.proofs.Lacks.{number_lacks, one_more}
use Rattle.ceiling_kernel.specs.Runs.{no_record}
use Rattle.ceiling_kernel.specs.declared.trace.JobRecord.{JobRecord}
use Rattle.ceiling_kernel.specs.declared.trace.Slice.{Slice}
use Rattle.trace_text.specs.TraceLines.{finish_in, rows_from, trace_row_in}
use Rattle.trace_text.specs.declared.rows.TraceRow.{TraceRow}
use Rattle.trace_text.specs.declared.rows.TraceRow.TheVariants as row
use Rattle.kept_promises.specs.PrintedRuns.{job_row, jobs_from, slice_row, slices_from}
use Rattle.printed_runs.specs.TraceLines.{finish_words, job_lines, slice_lines}

-- ---- what can be read back
-- a slice with times that can be spelled, of a job with a name
pub record IsSliceLine (jobs : List JobRecord) (s : Slice) : Type 0 where
  pub lasts : s.start < s.stop
  pub short : s.stop < 10 ^ 10
  pub named : IsName (slice_index_or jobs s.job no_record).name

-- a job with a name and with times that can be spelled
pub record IsJobLine (job : JobRecord) : Type 0 where
  pub named : IsName job.name
  pub arrives : job.release < 10 ^ 10
  pub finishes : IfSome job.finish (λ f. (job.release ≤ f) × (f < 10 ^ 10))

-- ---- their words and texts
abbrev slice_words : List JobRecord → Slice → List (List ℕ)
slice_words jobs s =
    decimal s.start ∷ decimal s.stop ∷ (slice_index_or jobs s.job no_record).name ∷ []

abbrev slice_text : List JobRecord → Slice → List ℕ
slice_text jobs s = join_with_byte 32 (slice_words jobs s)

abbrev job_words : JobRecord → List (List ℕ)
job_words job = codes "job" ∷ job.name ∷ decimal job.release ∷ finish_words job.finish ∷ []

abbrev job_text : JobRecord → List ℕ
job_text job = join_with_byte 32 (job_words job)

-- a byte that stands in none of their words
record IsApart (c : ℕ) : Type 0 where
  name : is_name_byte c ≡ false
  digit : is_ascii_digit c ≡ false
  dash : (45 == c) ≡ false
  job : Lacks c (codes "job")

space : IsApart 32
space = record { name = refl; digit = refl; dash = refl; job = lacks_in 32 (codes "job") refl }

line_end : IsApart 10
line_end = record { name = refl; digit = refl; dash = refl; job = lacks_in 10 (codes "job") refl }

finish_lacks : {c : ℕ} (arrival : ℕ) (finish : Option ℕ) → IsApart c
    → IfSome finish (λ f. (arrival ≤ f) × (f < 10 ^ 10)) → Lacks c (finish_words finish)
finish_lacks arrival None apart is = record { none = (apart.dash, tt) }
finish_lacks {c} arrival (Some f) apart is = number_lacks c f apart.digit (omega (arith, is.1))

slice_lacks : {c : ℕ} {jobs : List JobRecord} {s : Slice} → IsApart c → IsSliceLine jobs s
    → AllByRecursion (λ w. Lacks c w) (slice_words jobs s)
slice_lacks {c} {jobs} {s} apart is = (
  number_lacks c s.start apart.digit (omega (arith, is.lasts, is.short)),
  (
    number_lacks c s.stop apart.digit (omega (arith, is.short)),
    (name_lacks c (slice_index_or jobs s.job no_record).name apart.name is.named, tt),
  ),
)

job_lacks : {c : ℕ} {job : JobRecord} → IsApart c → IsJobLine job
    → AllByRecursion (λ w. Lacks c w) (job_words job)
job_lacks {c} {job} apart is = (
  apart.job,
  (
    name_lacks c job.name apart.name is.named,
    (
      number_lacks c job.release apart.digit (omega (arith, is.arrives)),
      (finish_lacks job.release job.finish apart is.finishes, tt),
    ),
  ),
)

-- ---- a line
slice_kept : (jobs : List JobRecord) (s : Slice) → IsSliceLine jobs s
    → is_skipped (slice_text jobs s) ≡ false
slice_kept jobs s is =
    let wide : s.start < 2 ^ 64 = omega (arith, is.lasts, is.short) in
    kept_word (decimal s.start)
    (32 ∷ join_with_byte 32 (decimal s.stop ∷ (slice_index_or jobs s.job no_record).name ∷ []))
    (decimal_nonempty s.start wide) (number_lacks 35 s.start refl wide)

slice_again : (jobs : List JobRecord) (s : Slice) (line : ℕ) → IsSliceLine jobs s
    → trace_row_in line (words (slice_text jobs s)) ≡ Some (row.Slice (slice_row jobs line s))
slice_again jobs s line is =
    let lacks = slice_lacks space is in
    let name : List ℕ = (slice_index_or jobs s.job no_record).name in
    let named : is_name name ≡ true = is.named in
    ap (trace_row_in line)
    (joined_again 32 (decimal s.start) (decimal s.stop ∷ name ∷ []) lacks.0 lacks.1) ∙ rw (
      number_again s.start (omega (arith, is.lasts, is.short)),
      number_again s.stop is.short,
      named,
      lt-ltb s.start s.stop is.lasts,
    ) refl

-- the word of a finish
not_dash : (f : ℕ) → f < 10 ^ 10 → bytes_eq (decimal f) (codes "-") ≡ false
not_dash f short =
    elim (cases_Bool (bytes_eq (decimal f) (codes "-"))) [
      | inr differ ↦ differ
      | inl same ↦
          let dash : Lacks 45 (codes "-") = subst (λ (w : List ℕ). Lacks 45 w)
          ((bytes_eq-Decides (decimal f) (codes "-")).0 same)
          (number_lacks 45 f refl (omega (arith, short))) in
          absurd (true≢false dash.none.0)
    ]

finish_again : (arrival : ℕ) (finish : Option ℕ) → IfSome finish
    (λ f. (arrival ≤ f) × (f < 10 ^ 10)) → finish_in arrival (finish_words finish) ≡ Some finish
finish_again arrival None is = refl
finish_again arrival (Some f) is =
    rw (not_dash f is.1, number_again f is.1, le-leb arrival f is.0) refl

job_again : (job : JobRecord) (line : ℕ) → IsJobLine job
    → trace_row_in line (words (job_text job)) ≡ Some (row.Job (job_row line job))
job_again job line is =
    let lacks = job_lacks space is in
    let named : is_name job.name ≡ true = is.named in
    ap (trace_row_in line) (joined_again 32 (codes "job")
    (job.name ∷ decimal job.release ∷ finish_words job.finish ∷ []) lacks.0 lacks.1) ∙ rw (
      named,
      number_again job.release is.arrives,
      finish_again job.release job.finish is.finishes,
    ) refl

-- ---- lines
-- a line that is a row, in front of others
row_more : (number : ℕ) (text : List ℕ) (ls : List (List ℕ)) (r : TraceRow)
    → is_skipped text ≡ false → trace_row_in number (words text) ≡ Some r → rows_from
    (kept_from number (text ∷ ls)) ≡ ahead (r ∷ []) (rows_from (kept_from (number + 1) ls))
row_more number text ls r kept is = rw (kept, is) refl

before_more : (r : TraceRow) (rows : List TraceRow) (rest : Result (List TraceRow) ℕ)
    → ahead (r ∷ []) (ahead rows rest) ≡ ahead (r ∷ rows) rest
before_more r rows (Ok more) = refl
before_more r rows (Err line) = refl

slice_shape : (a b c x y : List ℕ)
    → ((((((a ++ codes " ") ++ b) ++ codes " ") ++ c) ++ codes "\n") ++ x) ++ y
    ≡ (a ++ 32 ∷ (b ++ 32 ∷ c)) ++ 10 ∷ (x ++ y)
slice_shape a b c x y = simp append_assoc

job_shape : (n r f x : List ℕ)
    → ((((((codes "job " ++ n) ++ codes " ") ++ r) ++ codes " ") ++ f) ++ codes "\n") ++ x
    ≡ (codes "job" ++ 32 ∷ (n ++ 32 ∷ (r ++ 32 ∷ f))) ++ 10 ∷ x
job_shape n r f x = simp append_assoc

pub jobs_again : (jobs : List JobRecord) (line : ℕ) → AllByRecursion IsJobLine jobs → rows_from
    (kept_from line (lines_of (job_lines jobs))) ≡ Ok (map row.Job (jobs_from line jobs))
jobs_again [] line each = refl
jobs_again (job ∷ jobs) line each =
    let lacks = joined_lacks 32 10 (job_words job) refl (job_lacks line_end each.0) in
    let cut : lines_of (job_lines (job ∷ jobs)) ≡ job_text job ∷ lines_of (job_lines jobs) =
    ap lines_of (job_shape job.name (decimal job.release) (finish_words job.finish)
    (job_lines jobs)) ∙ one_more (job_text job) (job_lines jobs) lacks in
    ap (λ (ls : List (List ℕ)). rows_from (kept_from line ls)) cut
    ∙ row_more line (job_text job) (lines_of (job_lines jobs)) (row.Job (job_row line job)) refl
    (job_again job line each.0)
    ∙ ap (ahead (row.Job (job_row line job) ∷ [])) (jobs_again jobs (line + 1) each.1)

before_none : (rest : Result (List TraceRow) ℕ) → ahead [] rest ≡ rest
before_none (Ok rows) = refl
before_none (Err line) = refl

pub slices_again : (jobs : List JobRecord) (ss : List Slice) (line : ℕ) (more : List ℕ)
    → AllByRecursion (λ s. IsSliceLine jobs s) ss
    → rows_from (kept_from line (lines_of (slice_lines jobs ss ++ more))) ≡ ahead (map row.Slice
    (slices_from jobs line ss)) (rows_from (kept_from (line + length ss) (lines_of more)))
slices_again jobs [] line more each =
    let z : line ≡ line + 0 = omega arith in
    sym (before_none (rows_from (kept_from line (lines_of more))))
    ∙ ap (λ n. ahead [] (rows_from (kept_from n (lines_of more)))) z
slices_again jobs (s ∷ ss) line more each =
    let name : List ℕ = (slice_index_or jobs s.job no_record).name in
    let lacks = joined_lacks 32 10 (slice_words jobs s) refl (slice_lacks line_end each.0) in
    let cut : lines_of (slice_lines jobs (s ∷ ss) ++ more) ≡ slice_text jobs s
    ∷ lines_of (slice_lines jobs ss ++ more) =
    ap lines_of (slice_shape (decimal s.start) (decimal s.stop) name (slice_lines jobs ss) more)
    ∙ one_more (slice_text jobs s) (slice_lines jobs ss ++ more) lacks in
    let next : line + 1 + length ss ≡ line + suc (length ss) = omega arith in
    ap (λ (ls : List (List ℕ)). rows_from (kept_from line ls)) cut
    ∙ row_more line (slice_text jobs s) (lines_of (slice_lines jobs ss ++ more)) (row.Slice
    (slice_row jobs line s)) (slice_kept jobs s each.0) (slice_again jobs s line each.0)
    ∙ ap (ahead (row.Slice (slice_row jobs line s) ∷ []))
    (slices_again jobs ss (line + 1) more each.1)
    ∙ before_more (row.Slice (slice_row jobs line s))
    (map row.Slice (slices_from jobs (line + 1) ss))
    (rows_from (kept_from (line + 1 + length ss) (lines_of more)))
    ∙ ap (λ n. ahead (row.Slice (slice_row jobs line s) ∷ map row.Slice
    (slices_from jobs (line + 1) ss)) (rows_from (kept_from n (lines_of more)))) next
