-- What a trace shows in the order that settings give.
use Rattle.std.proofs.Common.{◌≡◌, ◌<◌, ℕ, zero, suc, true, false, List, [], ◌∷◌, length, Result, Ok, Err, All, inl, inr}
use Rattle.std.proofs.Common.{subst, refl, arith}
use Rattle.task_sheet.proofs.Common.{Task, IsOrder}
use Rattle.assignment.specs.Places.{PlaceData}
use Rattle.judge.specs.Judgements.{AllJudged, judged_of, order_judged}
use Rattle.judge.specs.Node.{AreNumbersOf, IsOrderOfRows}
use Rattle.judge.specs.declared.judging.JudgedTask.{JudgedTask}
use Rattle.judge.specs.declared.rows.SettingRow.{SettingRow}
use Rattle.trace_text.specs.TraceFaults.{IsTraceOf}
use Rattle.trace_text.specs.declared.fault.TraceFault.{TraceFault}
use Rattle.trace_text.specs.declared.fault.TraceFault.TheVariants as fault
use Rattle.trace_text.specs.declared.reading.TraceLines.{TraceLines}
use Rattle.trace_text.specs.declared.rows.TraceRow.{TraceRow}
use Rattle.observed.specs.Promises.{levels_from}
use Rattle.observed.specs.Sights.{AreInputs, IsSightFaultOf}
use Rattle.answering.specs.declared.refusal.CommandRefusal.{CommandRefusal}
use Rattle.answering.specs.declared.refusal.CommandRefusal.TheVariants as refusal
use Rattle.two_input_commands.specs.Simulate.{AreJudgedBy}
use Rattle.two_input_commands.specs.Observe.{IsLookedAt, IsUnseen, ObservesText, ReadsTrace}
use Rattle.judge.proofs.TaskLaws.{in_set}
use Rattle.two_input_commands.proofs.Ordered.{judged_by}

-- the tasks of places are those of their order
places_within : (n : ℕ) (places : List PlaceData) → All (λ k. k < n)
    (order_judged (judged_of places)) → All (λ (p : PlaceData). p.task < n) places
places_within n [] all k d lt = absurd (omega (arith, lt))
places_within n (p ∷ places) all zero d lt = all zero 0 (omega arith)
places_within n (p ∷ places) all (suc k) d lt = places_within n places
    (λ j e below. all (suc j) e (omega (arith, below))) k d (omega (arith, lt))

pub tasks_within : (U : List Task) (judged : List JudgedTask) (places : List PlaceData)
    → IsOrder U (order_judged judged) → judged ≡ judged_of places
    → All (λ (p : PlaceData). p.task < length U) places
tasks_within U judged places each same =
    places_within (length U) places (subst (λ (js : List JudgedTask). All (λ k. k < length U)
    (order_judged js)) same (in_set U (order_judged judged) each))

-- where all tasks meet their deadlines
pub given : (U : List Task) (rows : List SettingRow) (found : Result (List TraceRow) ℕ)
    (trace : TraceLines) (judged : List JudgedTask) (numbers : List ℕ) (places : List PlaceData)
    → 0 < length rows → IsTraceOf found trace
    → IsOrderOfRows false U rows (order_judged judged) × AllJudged U judged
    → AreNumbersOf U rows (order_judged judged) numbers
    → judged ≡ judged_of places → IsLookedAt U (Ok rows) found true numbers places trace
given U rows found trace judged numbers places some read is by same = record {
  levels = (
    subst (λ (js : List JudgedTask). AreJudgedBy U (Ok rows) js) same (judged_by U rows judged some is),
    (rows, refl, subst (λ (js : List JudgedTask). AreNumbersOf U rows (order_judged js) numbers) same by),
  );
  read = read;
}

-- in the best order
pub best : (U : List Task) (found : Result (List TraceRow) ℕ) (places : List PlaceData) (trace : TraceLines)
    → AreInputs U found places trace
    → IsLookedAt U (Ok []) found false (levels_from 1 places) places trace
best U found places trace inputs =
    record { levels = (inputs.best, refl, refl); read = inputs.read }

-- why a trace shows nothing in the best order
pub unseen_in_best : (U : List Task) (found : Result (List TraceRow) ℕ) (fault : TraceFault)
    → IsSightFaultOf U found fault → IsUnseen U (Ok []) found fault
unseen_in_best U found fault.OutOfMemory why = inl ([], refl, tt)
unseen_in_best U found (fault.NoJob line) why =
    inr (false, levels_from 1 why.0, why.0, why.1, best U found why.0 why.1 why.2, why.3)
unseen_in_best U found (fault.BadLine line) why = inl ([], refl, why)
unseen_in_best U found (fault.SliceOverlap line) why = inl ([], refl, why)
unseen_in_best U found (fault.JobUnsorted line) why = inl ([], refl, why)
unseen_in_best U found fault.TooManyLines why = inl ([], refl, why)

-- why a text has no trace is why it shows nothing
pub unread : (U : List Task) (text : List ℕ) (r : CommandRefusal) → ReadsTrace text (Err r)
    → ObservesText U text (Err r)
unread U text (refusal.Settings fault) why = inl why
unread U text (refusal.Trace fault) why = inl why
unread U text _ why = absurd why
