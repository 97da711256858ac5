-- What a reading shows, as a trace, of a set's tasks in an order, and in their best one.
use Rattle.std.specs.Prelude.{◌≡◌, ℕ, List, Some, None, Result}
use Rattle.task_sheet.specs.Sheet.{Task}
use Rattle.task_sheet.specs.Indexes.{indexes_of}
use Rattle.task_sheet.specs.Levels.{IsGreatestObstruction}
use Rattle.assignment.specs.Places.{PlaceData}
use Rattle.assignment.specs.Placings.{IsBestPlacing}
use Rattle.trace_text.specs.TraceFaults.{IsTraceOf, rows_fault}
use Rattle.trace_text.specs.TraceLines.{rows_in}
use Rattle.trace_text.specs.declared.fault.TraceFault.{TraceFault}
use Rattle.trace_text.specs.declared.fault.TraceFault.TheVariants as fault
use Rattle.trace_text.specs.declared.reading.TraceLines.{TraceLines}
use Rattle.trace_text.specs.declared.rows.TraceRow.{TraceRow}
use Rattle.observed.specs.Observed.{observed_fault, observed_in}
use Rattle.observed.specs.Promises.{levels_from, promises_by_level, promises_of}
use Rattle.observed.specs.declared.sight.Observed.{Observed}
use Rattle.observed.specs.declared.sight.Sight.{Sight}
use Rattle.observed.specs.declared.sight.Sight.TheVariants.{Infeasible, Seen}

-- ---- in an order with these places, whose threads have these numbers
-- the promises of the order, and what a trace shows of each job of its tasks
pub record IsShownAt (U : List Task) (numbers : List ℕ) (places : List PlaceData) (lines : TraceLines)
    (observed : Observed) : Type 0 where
  pub promises : observed.promises.items ≡ promises_of U numbers places
  pub housed : observed_fault (promises_of U numbers places) lines ≡ None
  pub seen : observed.seen.items ≡ observed_in U (promises_of U numbers places) lines

-- ---- in the best order, whose threads have the numbers of their levels
-- what was read is a trace, and the places are those of the best order
pub record AreInputs (U : List Task) (found : Result (List TraceRow) ℕ) (places : List PlaceData)
    (trace : TraceLines) : Type 0 where
  pub best : IsBestPlacing U places
  pub read : IsTraceOf found trace

-- the promises of the best order, and what a trace shows of each job of its tasks
pub record IsObserved (U : List Task) (found : Result (List TraceRow) ℕ) (observed : Observed) : Type 0 where
  pub places : List PlaceData
  pub lines : TraceLines
  pub inputs : AreInputs U found places lines
  pub shown : IsShownAt U (levels_from 1 places) places lines observed

-- what a reading shows of a set, or that no order of the set passes
abbrev pub IsSightOf : List Task → Result (List TraceRow) ℕ → Sight → Type 0
IsSightOf U found (Infeasible members) =
    IsGreatestObstruction U (indexes_of members) × (rows_fault found ≡ None)
IsSightOf U found (Seen observed) = IsObserved U found observed

-- why a reading shows nothing: out of memory; a slice of a task lies in no job of it; or it is no trace
abbrev pub IsSightFaultOf : List Task → Result (List TraceRow) ℕ → TraceFault → Type 0
IsSightFaultOf U found fault.OutOfMemory = Unit {0}
IsSightFaultOf U found (fault.NoJob line) =
    (places : List PlaceData) × (trace : TraceLines) × AreInputs U found places trace
    × (observed_fault (promises_by_level U places) trace ≡ Some (fault.NoJob line))
IsSightFaultOf U found e = rows_fault found ≡ Some e

-- the same of a text
abbrev pub IsSight : List Task → List ℕ → Sight → Type 0
IsSight U text sight = IsSightOf U (rows_in text) sight

abbrev pub IsSightFault : List Task → List ℕ → TraceFault → Type 0
IsSightFault U text e = IsSightFaultOf U (rows_in text) e
