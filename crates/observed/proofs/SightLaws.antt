-- Why a trace shows nothing of a set.
use Rattle.std.proofs.Common.{◌≡◌, ℕ, List, Option, Some, None, Result}
use Rattle.std.specs.Option.{option_map}
use Rattle.task_sheet.specs.Sheet.{Task}
use Rattle.assignment.specs.Places.{PlaceData}
use Rattle.trace_text.specs.TraceFaults.{IsTraceFault}
use Rattle.trace_text.specs.declared.fault.TraceFault.{TraceFault}
use Rattle.trace_text.specs.declared.fault.TraceFault.TheVariants as fault
use Rattle.trace_text.specs.declared.rows.TraceRow.{TraceRow}
use Rattle.trace_text.specs.declared.reading.TraceLines.{TraceLines}
use Rattle.observed.specs.Observed.{observed_fault}
use Rattle.observed.specs.Pieces.{homeless_line, pieces_of}
use Rattle.observed.specs.Promises.{promises_by_level}
use Rattle.observed.specs.Sights.{AreInputs, IsSightFaultOf}

-- a set refuses a trace for a slice in no job alone
no-other : (line : Option ℕ) (e : TraceFault) → ((l : ℕ) → e ≡ fault.NoJob l → ⊥)
    → option_map (λ l. fault.NoJob l) line ≡ Some e → ⊥
no-other None e other is = cc
no-other (Some l) e other is = other l cc

abbrev homeless : List Task → List PlaceData → TraceLines → Option ℕ
homeless U places trace =
    homeless_line (pieces_of (promises_by_level U places) trace.jobs.items trace.slices.items)

-- a refusal of the trace of a set, in its best order
pub fault-shown : (U : List Task) (found : Result (List TraceRow) ℕ) (places : List PlaceData)
    (trace : TraceLines) (e : TraceFault) → AreInputs U found places trace
    → IsTraceFault e (observed_fault (promises_by_level U places) trace) → IsSightFaultOf U found e
fault-shown U found places trace fault.OutOfMemory inputs why = tt
fault-shown U found places trace (fault.NoJob line) inputs why = (places, trace, inputs, why)
fault-shown U found places trace (fault.BadLine line) inputs why =
    absurd (no-other (homeless U places trace) (fault.BadLine line) (λ l is. cc) why)
fault-shown U found places trace (fault.SliceOverlap line) inputs why =
    absurd (no-other (homeless U places trace) (fault.SliceOverlap line) (λ l is. cc) why)
fault-shown U found places trace (fault.JobUnsorted line) inputs why =
    absurd (no-other (homeless U places trace) (fault.JobUnsorted line) (λ l is. cc) why)
fault-shown U found places trace fault.TooManyLines inputs why =
    absurd (no-other (homeless U places trace) fault.TooManyLines (λ l is. cc) why)
