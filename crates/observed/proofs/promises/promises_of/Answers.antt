use Rattle.std.proofs.Common.{◌≡◌, ◌∙◌, ◌+◌, ◌++◌, ◌∷◌, [], ℕ, List, append_assoc, ap, arith, length, sym}
use Rattle.assignment.specs.Places.{PlaceData}
use Rattle.observed.specs.Promises.{number_at, promise_of, promises_from}
use Rattle.observed.specs.declared.promises.Promise.{Promise}
use Rattle.observed.proofs.PlaceLaws.{rest-within}
use Rattle.observed.proofs.promises.promises_of.Goals as goal

pub loop-place-preserved : goal.loop-place-preserved
loop-place-preserved c =
    let U = c.args.set.now in
    let numbers : List ℕ = c.args.numbers.now in
    let level : ℕ = c.loop-place.level in
    let p = c.in-Some.place.now in
    let above = c.in-Some.above.now in
    let before : List Promise = c.loop-place.promises.items in
    let next : List Promise = promises_from U numbers (level + 1) above in
    let own : Promise = promise_of U (number_at numbers level) p above in
    let same : c.loop-place.rest.now ≡ p ∷ above = c.in-Some.ensures.cases.0 in
    let whole = ap (λ (ps : List PlaceData). before ++ promises_from U numbers level ps) (sym same)
    ∙ c.loop-place.invariant.whole in
    let made = c.promise_of.ensures
    ∙ ap (λ (n : ℕ). promise_of U n p above) c.number_at.ensures in
    let pushed = ap (λ (ps : List Promise). ps ++ next) (c.in_ok-push.ensures.items
    ∙ ap (λ (x : Promise). before ++ x ∷ []) made) in
    record {
      tasks = rest-within _ c.loop-place.rest.now above p same c.loop-place.invariant.tasks;
      count = omega (
        arith,
        c.loop-place.invariant.count,
        ap (λ (ps : List PlaceData). length ps) same,
      );
      whole = pushed ∙ (append_assoc before (own ∷ []) next ∙ whole);
    }
