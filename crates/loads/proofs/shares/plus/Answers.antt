use Rattle.std.proofs.Common.{◌∙◌, get_or, arith, refl}
use Rattle.std.proofs.lemmas.List.{drop_more, drop_all}
use Rattle.loads.specs.declared.shares.Digit.{Digit}
use Rattle.loads.proofs.ShareLaws.{bottom_carried, bottom_end, bottom_step, digits_push, low_digit}
use Rattle.loads.proofs.ShareLaws.{part_fits, top_carried, top_end, top_step}
use Rattle.loads.proofs.shares.plus.Goals as goal

none : Digit
none = record { top = 0; bottom = 0 }

pub overflow_mul-top : goal.overflow_mul-top
unfolding none
overflow_mul-top c =
    let digit = c.requires.digits c.loop-digit.digit-index none (omega arith) in
    omega (arith, part_fits _ c.args.share.period digit.top c.requires.valid.period)

pub overflow_mul-top-in-loop-digit : goal.overflow_mul-top-in-loop-digit
unfolding none
overflow_mul-top-in-loop-digit c =
    let digit = c.requires.digits c.loop-digit.digit-index none (omega arith) in
    omega (arith, part_fits _ c.args.share.cost digit.bottom c.requires.valid.cost)

pub overflow_add-top : goal.overflow_add-top
unfolding none
overflow_add-top c =
    let digit = c.requires.digits c.loop-digit.digit-index none (omega arith) in
    omega (
      arith,
      part_fits _ c.args.share.period digit.top c.requires.valid.period,
      part_fits _ c.args.share.cost digit.bottom c.requires.valid.cost,
      c.loop-digit.invariant.small,
    )

pub overflow_add-top-in-loop-digit : goal.overflow_add-top-in-loop-digit
unfolding none
overflow_add-top-in-loop-digit c =
    let digit = c.requires.digits c.loop-digit.digit-index none (omega arith) in
    omega (
      arith,
      part_fits _ c.args.share.period digit.top c.requires.valid.period,
      part_fits _ c.args.share.cost digit.bottom c.requires.valid.cost,
      c.loop-digit.invariant.small,
    )

pub overflow_mul-bottom : goal.overflow_mul-bottom
unfolding none
overflow_mul-bottom c =
    let digit = c.requires.digits c.loop-digit.digit-index none (omega arith) in
    omega (arith, part_fits _ c.args.share.period digit.bottom c.requires.valid.period)

pub overflow_add-bottom : goal.overflow_add-bottom
unfolding none
overflow_add-bottom c =
    let digit = c.requires.digits c.loop-digit.digit-index none (omega arith) in
    omega (
      arith,
      part_fits _ c.args.share.period digit.bottom c.requires.valid.period,
      c.loop-digit.invariant.short,
    )

pub returns-clause-digits : goal.returns-clause-digits
returns-clause-digits c =
    rw (c.in_ok-push-2.ensures.items) (digits_push _ _ c.loop-digit.invariant.digits
    (record { top = omega (arith, c.loop-digit.invariant.small); bottom = omega (arith, c.loop-digit.invariant.short) }))

pub loop-digit-preserved : goal.loop-digit-preserved
unfolding none
loop-digit-preserved c =
    let next = drop_more c.args.fraction.now c.loop-digit.digit-index none (omega arith) in
    let d = get_or c.args.fraction.now c.loop-digit.digit-index none in
    let digit = c.requires.digits c.loop-digit.digit-index none (omega arith) in
    let top = rw next at c.loop-digit.invariant.top in
    let bottom = rw next at c.loop-digit.invariant.bottom in
    record {
      top = rw (c.in_ok-push.ensures.items) (top_step _ d _ _ _ _ _ _ refl refl ∙ top);
      bottom = rw (c.in_ok-push.ensures.items) (bottom_step _ d _ _ _ _ _ refl refl ∙ bottom);
      digits = rw (c.in_ok-push.ensures.items) (digits_push _ _ c.loop-digit.invariant.digits
          (low_digit _ _));
      small = top_carried _ c.args.share.period c.args.share.cost _ digit (c.requires.valid.period)
          (omega arith) c.loop-digit.invariant.small;
      short = bottom_carried _ c.args.share.period _ digit (c.requires.valid.period)
          c.loop-digit.invariant.short;
    }

pub returns-clause-top : goal.returns-clause-top
returns-clause-top c =
    let left = drop_all c.loop-digit.digit-index c.args.fraction.now (omega arith) in
    let top = rw left at c.loop-digit.invariant.top in
    rw (c.in_ok-push-2.ensures.items) (top_end _ _ c.args.share.period c.args.share.cost _ top)

pub returns-clause-bottom : goal.returns-clause-bottom
returns-clause-bottom c =
    let left = drop_all c.loop-digit.digit-index c.args.fraction.now (omega arith) in
    let bottom = rw left at c.loop-digit.invariant.bottom in
    rw (c.in_ok-push-2.ensures.items) (bottom_end _ _ c.args.share.period _ bottom)
