-- Slices and jobs, and those that are read behind them.
use Rattle.std.proofs.Common.{◌≡◌, ◌∙◌, ℕ, List, [], ◌∷◌, ◌++◌, refl, sym, ap, append_assoc}
use Rattle.std.specs.Prelude.{Option, None, Some, Result, Ok, Err, ok_or}
use Rattle.lines.specs.Steps.{◌>>=◌, ahead}
use Rattle.lines.specs.Words.{words}
use Rattle.trace_text.specs.TraceFaults.{IsTraceOf, rows_fault, sequence_fault}
use Rattle.trace_text.specs.TraceLines.{jobs_of, parts_of, rows_from, slices_of, trace_row_in}
use Rattle.trace_text.specs.declared.reading.TraceLines.{TraceLines}
use Rattle.trace_text.specs.declared.rows.TraceRow.{TraceRow}
use Rattle.trace_text.specs.declared.rows.TraceRow.TheVariants.{Slice, Job}
use Rattle.trace_text.specs.declared.rows.TraceSlice.{TraceSlice}
use Rattle.trace_text.specs.declared.rows.TraceJob.{TraceJob}

-- these, and behind them those of a reading
abbrev pub behind : List TraceSlice → List TraceJob → Result (List TraceRow) ℕ
    → Result (List TraceSlice × List TraceJob) ℕ
behind ss js (Ok rows) = Ok (ss ++ slices_of rows, js ++ jobs_of rows)
behind ss js (Err line) = Err line

-- ---- a row more
slices_more : (ss : List TraceSlice) (row : TraceRow) (rows : List TraceRow)
    → (ss ++ slices_of (row ∷ [])) ++ slices_of rows ≡ ss ++ slices_of (row ∷ rows)
slices_more ss (Slice s) rows = append_assoc ss (s ∷ []) (slices_of rows)
slices_more ss (Job j) rows = append_assoc ss [] (slices_of rows)

jobs_more : (js : List TraceJob) (row : TraceRow) (rows : List TraceRow)
    → (js ++ jobs_of (row ∷ [])) ++ jobs_of rows ≡ js ++ jobs_of (row ∷ rows)
jobs_more js (Slice s) rows = append_assoc js [] (jobs_of rows)
jobs_more js (Job j) rows = append_assoc js (j ∷ []) (jobs_of rows)

-- a row, and then those that are read
pub row_more : (ss : List TraceSlice) (js : List TraceJob) (row : TraceRow)
    (found : Result (List TraceRow) ℕ)
    → behind (ss ++ slices_of (row ∷ [])) (js ++ jobs_of (row ∷ [])) found
    ≡ behind ss js (ahead (row ∷ []) found)
row_more ss js row (Ok rows) = rw (slices_more ss row rows, jobs_more js row rows) refl
row_more ss js row (Err line) = refl

-- the same of a line, and of those behind it
pub line_more : (n : ℕ) (text : List ℕ) (row : TraceRow) (ls : List (ℕ × List ℕ))
    (ss : List TraceSlice) (js : List TraceJob) → trace_row_in n (words text) ≡ Some row
    → behind (ss ++ slices_of (row ∷ [])) (js ++ jobs_of (row ∷ [])) (rows_from ls)
    ≡ behind ss js (rows_from ((n, text) ∷ ls))
line_more n text row ls ss js said = row_more ss js row (rows_from ls)
    ∙ ap (λ (o : Option TraceRow). behind ss js (ok_or o n >>= λ y. ahead (y ∷ []) (rows_from ls)))
    (sym said)

-- ---- what is read is a trace, or why it is none
pub trace_of : (found : Result (List TraceRow) ℕ) (trace : TraceLines)
    → parts_of found ≡ Ok (trace.slices.items, trace.jobs.items)
    → sequence_fault trace.slices.items trace.jobs.items ≡ None → IsTraceOf found trace
trace_of (Ok rows) trace parts sound =
    let read : List TraceSlice × List TraceJob = (slices_of rows, jobs_of rows) in
    let kept : List TraceSlice × List TraceJob = (trace.slices.items, trace.jobs.items) in
    let both : read ≡ kept = cc in
    let slices : trace.slices.items ≡ slices_of rows =
    sym (ap (λ (p : List TraceSlice × List TraceJob). p.0) both) in
    let jobs : trace.jobs.items ≡ jobs_of rows =
    sym (ap (λ (p : List TraceSlice × List TraceJob). p.1) both) in
    record { sound = rw (sym slices, sym jobs) sound; rows = rows; read = refl; slices = slices; jobs = jobs }
trace_of (Err line) trace parts sound = absurd cc

pub fault_of : (found : Result (List TraceRow) ℕ) (trace : TraceLines)
    → parts_of found ≡ Ok (trace.slices.items, trace.jobs.items)
    → rows_fault found ≡ sequence_fault trace.slices.items trace.jobs.items
fault_of (Ok rows) trace parts =
    let read : List TraceSlice × List TraceJob = (slices_of rows, jobs_of rows) in
    let kept : List TraceSlice × List TraceJob = (trace.slices.items, trace.jobs.items) in
    let both : read ≡ kept = cc in
    let slices : trace.slices.items ≡ slices_of rows =
    sym (ap (λ (p : List TraceSlice × List TraceJob). p.0) both) in
    let jobs : trace.jobs.items ≡ jobs_of rows =
    sym (ap (λ (p : List TraceSlice × List TraceJob). p.1) both) in
    rw (slices, jobs) refl
fault_of (Err line) trace parts = absurd cc
