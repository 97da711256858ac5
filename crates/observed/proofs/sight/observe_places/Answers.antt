use Rattle.std.proofs.Common.{◌≡◌, ◌∙◌, ◌<◌, All, List, ap, length, subst, sym}
use Rattle.std.proofs.lemmas.Result.{err_from_is_err_and}
use Rattle.trace_text.specs.TraceFaults.{IsTraceFault}
use Rattle.observed.specs.Observed.{observed_fault, observed_in}
use Rattle.observed.specs.Promises.{promises_of}
use Rattle.observed.specs.declared.promises.Promise.{Promise}
use Rattle.observed.proofs.PlaceLaws.{promised-within}
use Rattle.observed.proofs.sight.observe_places.Goals as goal

pub observe-requires : goal.observe-requires
observe-requires c =
    let U = c.args.set.now in
    let same : c.deref.result.now ≡ promises_of U c.args.numbers.now c.args.places.now =
    c.deref.ensures.value ∙ c.in_ok-promises.ensures in
    subst (λ (ps : List Promise). All (λ (p : Promise). p.task < length U) ps) (sym same)
    (promised-within (length U) U c.args.numbers.now 0 c.args.places.now c.requires)

pub returns-in_err-seen : goal.returns-in_err-seen
returns-in_err-seen c =
    let U = c.args.set.now in
    let trace = c.args.trace.now in
    let same : c.deref.result.now ≡ promises_of U c.args.numbers.now c.args.places.now =
    c.deref.ensures.value ∙ c.in_ok-promises.ensures in
    let e = c.in_err-seen.field-0.0 in
    let why : IsTraceFault e (observed_fault (promises_of U c.args.numbers.now c.args.places.now) trace) =
    subst (λ (ps : List Promise). IsTraceFault e (observed_fault ps trace)) same
    c.in_err-seen.ensures in
    let p = err_from_is_err_and c.from_residual-in_err-seen.result
    c.from_residual-in_err-seen.ensures.1 in
    rw (p.1, p.2) why

pub returns : goal.returns
returns c =
    let trace = c.args.trace.now in
    let same : c.deref.result.now ≡ promises_of c.args.set.now c.args.numbers.now c.args.places.now =
    c.deref.ensures.value ∙ c.in_ok-promises.ensures in
    record {
      promises = c.in_ok-promises.ensures;
      housed = ap (λ (ps : List Promise). observed_fault ps trace) (sym same)
          ∙ c.in_ok-seen.ensures.0;
      seen = c.in_ok-seen.ensures.1 ∙ ap (λ (ps : List Promise). observed_in c.args.set.now ps trace) same;
    }
