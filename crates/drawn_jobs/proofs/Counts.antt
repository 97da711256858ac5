-- The counts of the ticks that jobs have executed.
use Rattle.std.proofs.Common.{◌≡◌, inl, inr, ℕ, ◌+◌, ◌<◌, List, [], length, sym, ap, ◌∙◌, subst}
use Rattle.std.proofs.Common.{add-one, arith, min, refl}
use Rattle.std.specs.Prelude.{slice_get, slice_index}
use Rattle.std.proofs.lemmas.Bool.{cases_lt, cases_eq, eq-eqb, ne_eqb}
use Rattle.std.proofs.lemmas.List.{length-set, get_or-set_same, get_or-set_other}
use Rattle.std.proofs.lemmas.Option.{slice_get_past}
use Rattle.ceiling_kernel.specs.declared.trace.JobRecord.{JobRecord}
use Rattle.ceiling_kernel.specs.declared.trace.Slice.{Slice}
use Rattle.frames.specs.Frame.{Frame}
use Rattle.frames.specs.declared.rows.TaskRow.{TaskRow}
use Rattle.frames.specs.declared.tones.Toned.{Toned}
use Rattle.frames.specs.Slices.{slice_at, executed_in, executed_with, ticks_of}
use Rattle.drawn_jobs.specs.Sections.{counted, AreUncounted}
use Rattle.frames.specs.PictureRows.{on_spot, of_job}
use Rattle.drawn_jobs.specs.Bars.{slice_text, slice_by, slice_in}
use Rattle.drawn_jobs.specs.Held.{held_before, held_by}
use Rattle.frames.proofs.Executed.{executed_more}

-- a job's count after a slice
counted_at : (ticks : List ℕ) (s : Slice) (j : ℕ) → j < length ticks
    → slice_index (counted ticks s) j ≡ executed_with j (slice_index ticks j) s
counted_at ticks s j lt =
    let count = min (slice_index ticks s.job) s.start + ticks_of s in
    elim (cases_eq s.job j) [
      | inl same ↦
          rw (eq-eqb s.job j same) (rw (← same) (get_or-set_same ticks s.job count 0
          (omega (arith, same, lt))))
      | inr other ↦
          rw (ne_eqb s.job j other) (get_or-set_other ticks s.job j count 0 (λ e. other (sym e)))
    ]

-- the counts are those of the first n slices
pub record AreCounts (ticks : List ℕ) (jobs : List JobRecord) (slices : List Slice)
    (n : ℕ) : Type 0 where
  pub count : length ticks ≡ length jobs
  pub each_job : (j : ℕ) → j < length jobs → slice_index ticks j ≡ executed_in slices n j

-- of none, at first
pub none_counted : (ticks : List ℕ) (jobs : List JobRecord) (slices : List Slice)
    → AreUncounted ticks (length jobs) → AreCounts ticks jobs slices 0
unfolding executed_in
none_counted ticks jobs slices none = record { count = none.0; each_job = λ j lt. none.1 j }

-- of one slice more
pub one_counted : (ticks : List ℕ) (jobs : List JobRecord) (slices : List Slice) (n : ℕ)
    → AreCounts ticks jobs slices n
    → AreCounts (counted ticks (slice_at slices n)) jobs slices (n + 1)
one_counted ticks jobs slices n counts =
    let s = slice_at slices n in
    record {
      count = length-set ticks s.job (min (slice_index ticks s.job) s.start + ticks_of s)
          ∙ counts.count;
      each_job = λ j lt.
          counted_at ticks s j (subst (λ (m : ℕ). j < m) (sym counts.count) lt)
          ∙ ap (λ (e : ℕ). executed_with j e s) (counts.each_job j lt)
          ∙ sym (executed_more slices n j);
    }

-- with these counts, a slice has its text: one of no job has none, whatever was executed before it
pub counted_text : (f : Frame) (locks : List Toned) (rows : List TaskRow) (shown : List ℕ)
    (jobs : List JobRecord) (slices : List Slice) (ticks : List ℕ) (n : ℕ)
    → AreCounts ticks jobs slices n
    → slice_by f locks rows shown jobs (slice_index ticks (slice_at slices n).job)
    (slice_at slices n) ≡ slice_in f locks rows shown jobs slices n
counted_text f locks rows shown jobs slices ticks n counts =
    let s = slice_at slices n in
    elim (cases_lt s.job (length jobs)) [
      | inl lt ↦ ap (λ (e : ℕ). slice_by f locks rows shown jobs e s) (counts.each_job s.job lt)
      | inr past ↦
          let none : (e : ℕ) → slice_by f locks rows shown jobs e s ≡ [] =
          λ e. ap (of_job (λ job. on_spot rows shown job.name (slice_text f locks e s)))
          (slice_get_past jobs s.job past) in
          none (slice_index ticks s.job) ∙ sym (none (executed_in slices n s.job))
    ]

-- and the locks that are held before the next one
pub counted_held : (f : Frame) (rows : List TaskRow) (shown : List ℕ) (jobs : List JobRecord)
    (slices : List Slice) (ticks : List ℕ) (n : ℕ) (held : List (List ℕ))
    → AreCounts ticks jobs slices n → held ≡ held_before f rows shown jobs slices n
    → held_by f rows shown (slice_index ticks (slice_at slices n).job) (slice_at slices n) held
    (slice_get jobs (slice_at slices n).job) ≡ held_before f rows shown jobs slices (n + 1)
unfolding held_before
counted_held f rows shown jobs slices ticks n held counts same =
    let s = slice_at slices n in
    rw (add-one n, same) (elim (cases_lt s.job (length jobs)) [
      | inl lt ↦ ap (λ (e : ℕ). held_by f rows shown e s (held_before f rows shown jobs slices n)
          (slice_get jobs s.job)) (counts.each_job s.job lt)
      | inr past ↦ rw (slice_get_past jobs s.job past) refl
    ])

-- before the first one none is
pub none_held : (f : Frame) (rows : List TaskRow) (shown : List ℕ) (jobs : List JobRecord)
    (slices : List Slice) → [] ≡ held_before f rows shown jobs slices 0
unfolding held_before
none_held f rows shown jobs slices = refl
