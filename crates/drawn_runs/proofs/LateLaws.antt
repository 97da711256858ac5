-- Of an admitted set no job is late in the row of its task.
use Rattle.std.proofs.Common.{◌≡◌, ◌∙◌, ℕ, ◌<◌, ◌≤◌, refl, sym, ap, subst, arith, All, true, false}
use Rattle.std.proofs.Common.{List, [], ◌∷◌, length, Option, Some, None}
use Rattle.std.proofs.lemmas.List.Elements.{All-from_get_or, All-nil, All-push}
use Rattle.std.proofs.lemmas.List.Quantifiers.{position-Some}
use Rattle.task_sheet.proofs.Common.{Task, same_bytes, IsTaskSet}
use Rattle.task_sheet.proofs.NameLaws.{same_is, same_own}
use Rattle.assignment.specs.Places.{PlaceData}
use Rattle.assignment.specs.Placings.{IsBestPlacing}
use Rattle.explain.specs.Accounts.{AreInTime}
use Rattle.explain.proofs.AccountLaws.{best-in_time}
use Rattle.ceiling_kernel.specs.Runs.{no_record}
use Rattle.ceiling_kernel.specs.declared.trace.JobRecord.{JobRecord}
use Rattle.ceiling_kernel.specs.declared.trace.Release.{Release}
use Rattle.ceiling_kernel.specs.declared.trace.Trace.{Trace}
use Rattle.run_lines.specs.TaskBounds.{bounds_of}
use Rattle.frames.specs.declared.rows.TaskRow.{TaskRow}
use Rattle.frames.specs.declared.view.View.{View}
use Rattle.frames.specs.Frame.{Frame, frame_of}
use Rattle.drawn_jobs.specs.Misses.{all_missed, is_late, is_late_at, misses}
use Rattle.frames.specs.PictureRows.{no_row, record_at, row_at, row_named}
use Rattle.frames.specs.View.{end_of_run}
use Rattle.drawn_runs.specs.Late.{IsBestRun, IsRowOf, NoneIsLate}
use Rattle.drawn_runs.specs.DrawnRows.{Looks, drawn_row, rows_of}
use Rattle.drawn_runs.proofs.ListLaws.{none_counts}
use Rattle.drawn_runs.proofs.RunLaws.{arrives_in, long, not_late}

module _ {U : List Task} {places : List PlaceData} {rs : List Release} {until : ℕ} {trace : Trace}
    {rows : List TaskRow} (v : View) (run : IsBestRun U places rs until trace rows) where
  abbrev frame : Frame
  frame = frame_of rows v until

  abbrev jobs : List JobRecord
  jobs = trace.jobs.items

  -- a job in a row of its task
  on_time : (row : TaskRow) (j : ℕ) → IsRowOf U row → j < length jobs → same_bytes
      (record_at jobs j).name row.sheet.name ≡ true → is_late frame row (record_at jobs j) ≡ false
  on_time row j of inside own =
      let is_job : j < length rs = omega (arith, inside, long run) in
      let upto : end_of_run until ≤ until = omega (arith, arrives_in run j is_job) in
      let named = sym (ap (λ (t : Task). t.name) of.2) ∙ sym
      (same_is (record_at jobs j).name row.sheet.name own) in
      subst (λ (t : Task). is_late frame (record {
        sheet = t;
        bound = row.bound;
        number = row.number;
        tone = row.tone;
        unrun = row.unrun;
      })
      (record_at jobs j) ≡ false) (sym of.2)
      (not_late run of.0 j (end_of_run until) of.1 is_job upto named)

  pub all_on_time : All (NoneIsLate frame jobs) rows
  all_on_time =
      All-from_get_or (NoneIsLate frame jobs) rows no_row (λ k lt.
      All-from_get_or (λ (job : JobRecord). same_bytes job.name (row_at rows k).sheet.name ≡ true
      → is_late frame (row_at rows k) job ≡ false) jobs no_record (λ j inside own.
      on_time (row_at rows k) j (run.tasks k no_row lt) inside own))

  -- a job that has a row
  not_missed : (j : ℕ) → j < length jobs → misses frame rows (record_at jobs j) ≡ false
  not_missed j inside =
      let name : List ℕ = (record_at jobs j).name in
      elim (row_named rows name) as (λ (o : Option ℕ). row_named rows name ≡ o
      → is_late_at frame rows (record_at jobs j) o ≡ false) [
        | None ↦ λ _. refl
        | Some k ↦ λ at.
            let found =
            position-Some (λ (r : TaskRow). same_bytes r.sheet.name name) rows k no_row at in
            let own = ap (λ (n : List ℕ). same_bytes name n)
            (same_is (row_at rows k).sheet.name name found.1) ∙ same_own name in
            on_time (row_at rows k) j (run.tasks k no_row found.0) inside own
      ] refl

  pub none_missed : all_missed frame rows jobs ≡ 0
  none_missed = none_counts (misses frame rows) jobs no_record not_missed

-- ---- the rows of the best order
rows_in : (U : List Task) (places : List PlaceData) (looks : Looks)
    → AreInTime U places → All (IsRowOf U) (rows_of U looks (bounds_of places))
rows_in U [] looks each = All-nil (IsRowOf U)
rows_in U (p ∷ places) looks each =
    let rows = rows_of U looks (bounds_of places) in
    All-push (IsRowOf U) rows
    (drawn_row U looks rows (record { task = p.task; bound = Some p.response }))
    (rows_in U places looks each.1) (p.task, each.0.in_set, refl)

pub best_rows : (U : List Task) (places : List PlaceData) (looks : Looks)
    → IsTaskSet U → IsBestPlacing U places → All (IsRowOf U) (rows_of U looks (bounds_of places))
best_rows U places looks set best = rows_in U places looks (best-in_time U places set best)
