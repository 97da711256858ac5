use Rattle.std.proofs.Common.{◌≡◌, ◌∙◌, ◌<◌, ℕ, List, Result, All, ap, length, subst, sym}
use Rattle.std.proofs.lemmas.Result.{err_from_is_err_and}
use Rattle.assignment.specs.Places.{PlaceData}
use Rattle.assignment.specs.Placings.{IsBestPlacing, IsPlacingOf}
use Rattle.trace_text.specs.TraceFaults.{IsTraceFault}
use Rattle.trace_text.specs.TraceLines.{rows_at}
use Rattle.trace_text.specs.declared.rows.TraceRow.{TraceRow}
use Rattle.observed.specs.Observed.{observed_fault}
use Rattle.observed.specs.Promises.{levels_from, promises_by_level, promises_of}
use Rattle.observed.specs.Sights.{IsShownAt}
use Rattle.observed.proofs.PlaceLaws.{best-within}
use Rattle.observed.proofs.SightLaws.{fault-shown}
use Rattle.observed.proofs.sight.observe_at.Goals as goal

pub observe_places-requires : goal.observe_places-requires
observe_places-requires c =
    let U = c.of-tabled.result in
    let placing : IsBestPlacing U c.in-Best.places.items =
    subst (IsPlacingOf U) c.in-Best.is c.in_ok-members.ensures in
    subst (λ (ps : List PlaceData). All (λ (p : PlaceData). p.task < length U) ps)
    (sym c.deref-in-Best-2.ensures.value) (best-within U c.in-Best.places.items placing)

pub returns-in_err-observed-in-Best : goal.returns-in_err-observed-in-Best
returns-in_err-observed-in-Best c =
    let U = c.of-tabled.result in
    let places = c.in-Best.places.items in
    let lines = c.in_ok-trace.trace in
    let found : Result (List TraceRow) ℕ = rows_at c.args.at.line c.args.at.rest.now in
    let placing : IsBestPlacing U places =
    subst (IsPlacingOf U) c.in-Best.is c.in_ok-members.ensures in
    let e = c.in_err-observed-in-Best.field-0.0 in
    let said : c.deref-in-Best.result.now ≡ levels_from 1 places = c.deref-in-Best.ensures.value
    ∙ c.in_ok-numbers-in-Best.ensures ∙ ap (levels_from 1) c.deref.ensures.value in
    let why : IsTraceFault e (observed_fault (promises_by_level U places) lines) =
    subst (λ (ps : List PlaceData). IsTraceFault e
    (observed_fault (promises_of U (levels_from 1 places) ps) lines)) c.deref-in-Best-2.ensures.value
    (subst (λ (ns : List ℕ). IsTraceFault e
    (observed_fault (promises_of U ns c.deref-in-Best-2.result.now) lines)) said
    c.in_err-observed-in-Best.ensures) in
    let shown = fault-shown U found places lines e
    (record { best = placing; read = c.in_ok-trace.ensures }) why in
    let p = err_from_is_err_and c.from_residual-in_err-observed-in-Best.result
    c.from_residual-in_err-observed-in-Best.ensures.1 in
    rw (sym c.of-tabled.ensures, p.1, p.2) shown

pub returns : goal.returns
returns c =
    let U = c.of-tabled.result in
    let places = c.in-Best.places.items in
    let lines = c.in_ok-trace.trace in
    let placing : IsBestPlacing U places =
    subst (IsPlacingOf U) c.in-Best.is c.in_ok-members.ensures in
    let said : c.deref-in-Best.result.now ≡ levels_from 1 places = c.deref-in-Best.ensures.value
    ∙ c.in_ok-numbers-in-Best.ensures ∙ ap (levels_from 1) c.deref.ensures.value in
    let shown : IsShownAt U (levels_from 1 places) places lines c.in_ok-observed-in-Best.observed =
    subst (λ (ps : List PlaceData). IsShownAt U (levels_from 1 places) ps lines
    c.in_ok-observed-in-Best.observed) c.deref-in-Best-2.ensures.value
    (subst (λ (ns : List ℕ). IsShownAt U ns c.deref-in-Best-2.result.now lines
    c.in_ok-observed-in-Best.observed) said c.in_ok-observed-in-Best.ensures) in
    rw (sym c.of-tabled.ensures) record {
      places = places;
      lines = lines;
      inputs = record { best = placing; read = c.in_ok-trace.ensures };
      shown = shown;
    }
