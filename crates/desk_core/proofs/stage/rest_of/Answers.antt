use Rattle.std.proofs.Common.{◌≡◌, ◌∙◌, sym, subst}
use Rattle.std.proofs.lemmas.Bool.{both_ways}
use Rattle.desk_core.specs.Findings.{IsTested}
use Rattle.desk_core.specs.Trials.{TrialData}
use Rattle.desk_core.proofs.StageLaws.{trying-rest}
use Rattle.desk_core.proofs.stage.rest_of.Goals as goal

tested_same : (t u : TrialData) → t ≡ u → IsTested t.set t.found → IsTested u.set u.found
tested_same t u same tested = subst (λ (x : TrialData). IsTested x.set x.found) same tested

pub returns-then-not-is_tested-clause-complete : goal.returns-then-not-is_tested-clause-complete
returns-then-not-is_tested-clause-complete c = λ tested.
    both_ways c.is_tested.result c.if-not-is_tested.true (c.is_tested.ensures.1
    (tested_same c.args.trial.value c.deref.result.now (sym c.deref.ensures) tested))

pub finish-judged-requires : goal.finish-judged-requires
finish-judged-requires c =
    tested_same c.deref.result.now c.into_inner.result (c.deref.ensures ∙ sym c.into_inner.ensures)
    (c.is_tested.ensures.0 c.if-not-is_tested.false)

pub returns-clause-kept : goal.returns-clause-kept
returns-clause-kept c = λ outcome so.
    let tested =
    tested_same c.deref.result.now c.into_inner.result (c.deref.ensures ∙ sym c.into_inner.ensures)
    (c.is_tested.ensures.0 c.if-not-is_tested.false) in
    trying-rest outcome c.into_inner.result c.finish-judged.result.0 c.finish-judged.result.1
    (rw c.into_inner.ensures so) tested c.finish-judged.ensures.judged
    c.finish-judged.ensures.found
