use Rattle.std.proofs.Common.{◌≡◌, ◌∙◌, [], drop, false, refl, sym, arith, get_or}
use Rattle.std.proofs.lemmas.Bool.{both_ways}
use Rattle.std.proofs.lemmas.List.{drop_all}
use Rattle.task_sheet.proofs.Common.{indexes_of, must_outrank_any, IsLeastOver}
use Rattle.task_sheet.proofs.PassingLaws.{must_outrank_any-at}
use Rattle.response_time.specs.Slowed.{PassesAt}
use Rattle.latest_first.specs.Tested.{IsPassingBy}
use Rattle.other_numbers.proofs.OrderLaws.{place-inside, rest-inside, stand-from}
use Rattle.limits.proofs.Answered.{if-none, if-some}
use Rattle.limits.proofs.in_order.order_passes_at.Goals as goal
use Rattle.limits.proofs.in_order.order_passes_at.Goals.{then-is_some-via-then-is_some}
use Rattle.limits.proofs.in_order.order_passes_at.Goals.{then-is_some-via-else-is_some+then-not-passes_at}

pub loop-place-init : goal.loop-place-init
loop-place-init c = (
  λ passing. passing.each_stands,
  λ all. record { each_once = c.requires; each_stands = all },
)

pub members_of-above-requires : goal.members_of-above-requires
members_of-above-requires c = λ k d lt. omega (
  arith,
  rest-inside c.args.set.now c.args.order.now c.requires c.loop-place.place c.loop-place-test.true k d lt,
  c.sheets.ensures.kept.few,
)

pub least_over-requires : goal.least_over-requires
least_over-requires c =
    place-inside c.args.set.now c.args.order.now c.requires c.loop-place.place c.loop-place-test.true

pub passes_at-requires : goal.passes_at-requires
passes_at-requires c =
    place-inside c.args.set.now c.args.order.now c.requires c.loop-place.place c.loop-place-test.true

pub returns-then-is_some : goal.returns-then-is_some
returns-then-is_some c =
    let U = c.args.set.now in
    let (apart, join) = stand-from (PassesAt c.args.factor U) U c.args.order.now c.loop-place.place _
    c.loop-place-test.true c.members_of-above.ensures in
    let stands = λ (passing : IsPassingBy (PassesAt c.args.factor U) U c.args.order.now). (apart (c.loop-place.invariant.0 passing)).0 in (
      λ no. absurd (both_ways false refl no),
      λ passing. absurd (elim c.then-is_some.branch [
        | then-is_some-via-then-is_some w ↦
            let over = if-some (λ k. IsLeastOver U (get_or c.args.order.now c.loop-place.place 0)
            (indexes_of c.members_of-above.result) k) c.least_over.result
            (sym c.is_some.ensures ∙ w.if-is_some.true) c.least_over.ensures.some in
            both_ways _ (stands passing).1 (must_outrank_any-at U _ _ _ over.1.in_set over.1.above over.1.named)
        | then-is_some-via-else-is_some+then-not-passes_at w ↦
            both_ways _ w.if-not-passes_at.true (w.passes_at.ensures.1 (stands passing).0)
      ]),
    )

pub loop-place-preserved : goal.loop-place-preserved
loop-place-preserved c =
    let U = c.args.set.now in
    let (apart, join) = stand-from (PassesAt c.args.factor U) U c.args.order.now c.loop-place.place _
    c.loop-place-test.true c.members_of-above.ensures in
    let low = get_or c.args.order.now c.loop-place.place 0 in
    let unbound = if-none (must_outrank_any U low (indexes_of c.members_of-above.result) ≡ false)
    c.least_over.result (sym c.is_some.ensures ∙ c.if-is_some.false) c.least_over.ensures.none in (
      λ passing. (apart (c.loop-place.invariant.0 passing)).1,
      λ rest. c.loop-place.invariant.1 (join ((c.passes_at.ensures.0 c.if-not-passes_at.false, unbound), rest)),
    )

pub returns : goal.returns
returns c =
    let end : drop c.loop-place.place c.args.order.now ≡ [] = drop_all _ c.args.order.now
    (omega (arith, c.loop-place-test.false)) in
    (λ yes. c.loop-place.invariant.1 (rw end tt), λ passing. refl)
