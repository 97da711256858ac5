use Rattle.std.proofs.Common.{◌≡◌, ◌∙◌, ℕ, List, Some, ap, ap₂, sym}
use Rattle.lines.specs.TextLines.{kept_from, lines_of}
use Rattle.lines.specs.Words.{words}
use Rattle.trace_text.specs.TraceLines.{rows_from, trace_row_in}
use Rattle.trace_text.specs.declared.rows.TraceJob.{TraceJob}
use Rattle.trace_text.specs.declared.rows.TraceSlice.{TraceSlice}
use Rattle.trace_text.proofs.PartLaws.{behind, line_more}
use Rattle.trace_text.proofs.reading.read_parts.Goals as goal

pub loop-line-preserved : goal.loop-line-preserved
loop-line-preserved c =
    let ss : List TraceSlice = c.loop-line.trace.slices.items in
    let js : List TraceJob = c.loop-line.trace.jobs.items in
    let later : List (ℕ × List ℕ) = kept_from c.in-Ok.after.line (lines_of c.in-Ok.after.rest.now) in
    let said : trace_row_in c.in-Ok.line.number (words c.in-Ok.line.text.now) ≡ Some c.in-Some.row =
    sym c.row_in.ensures ∙ c.in-Some.is in
    ap₂ (λ (xs : List TraceSlice) (ys : List TraceJob). behind xs ys (rows_from later))
    c.in_ok-add.ensures.slices c.in_ok-add.ensures.jobs
    ∙ line_more c.in-Ok.line.number c.in-Ok.line.text.now c.in-Some.row later ss js said
    ∙ ap (λ (ls : List (ℕ × List ℕ)). behind ss js (rows_from ls)) (sym c.in-Ok.ensures.line)
    ∙ c.loop-line.invariant
