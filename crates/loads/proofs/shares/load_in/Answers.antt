use Rattle.std.proofs.Common.{arith}
use Rattle.std.proofs.lemmas.List.{drop_more, drop_all}
use Rattle.std.proofs.lemmas.Nat.{mod_below}
use Rattle.loads.specs.declared.shares.Share.{Share}
use Rattle.loads.proofs.ShareLaws.{share_short, share_small, share_some, share_step}
use Rattle.loads.proofs.ShareLaws.{bottom_more, rest_fits, short_whole, times_fit, whole_and_rest}
use Rattle.loads.proofs.shares.load_in.Goals as goal

none : Share
none = record { cost = 0; period = 0 }

pub overflow_mul-times : goal.overflow_mul-times
unfolding none
overflow_mul-times c =
    let valid = c.requires.valid c.loop-share.share-index none (omega arith) in
    omega (arith, times_fit _ c.args.parts valid.cost c.requires.short)

pub nonzero_rem-left : goal.nonzero_rem-left
unfolding none
nonzero_rem-left c =
    let valid = c.requires.valid c.loop-share.share-index none (omega arith) in
    omega (arith, valid.some)

pub plus-requires-clause-valid : goal.plus-requires-clause-valid
unfolding none
plus-requires-clause-valid c =
    let valid = c.requires.valid c.loop-share.share-index none (omega arith) in
    record {
      some = valid.some;
      period = valid.period;
      cost = rest_fits _ _ c.args.parts valid.some valid.period;
    }

pub nonzero_div-whole : goal.nonzero_div-whole
unfolding none
nonzero_div-whole c =
    let valid = c.requires.valid c.loop-share.share-index none (omega arith) in
    omega (arith, valid.some)

pub overflow_add-whole : goal.overflow_add-whole
unfolding none
overflow_add-whole c =
    let valid = c.requires.valid c.loop-share.share-index none (omega arith) in
    omega (
      arith,
      share_small _ _ c.args.parts valid.some valid.cost c.requires.short,
      c.loop-share.invariant.small,
    )

pub rounded_up-requires-clause-short : goal.rounded_up-requires-clause-short
rounded_up-requires-clause-short c =
    rw c.deref-2.ensures.value (short_whole _ _ _ c.loop-share.invariant.short (omega arith))

pub loop-share-preserved : goal.loop-share-preserved
unfolding none
loop-share-preserved c =
    let next = drop_more c.args.shares.now c.loop-share.share-index none (omega arith) in
    let valid = c.requires.valid c.loop-share.share-index none (omega arith) in
    let small = share_small _ _ c.args.parts valid.some valid.cost c.requires.short in
    let bottom = rw next at c.loop-share.invariant.bottom in
    let top = rw next at c.loop-share.invariant.top in
    let sum = c.in_ok-rest.ensures in
    record {
      digits = sum.digits;
      some = rw (sum.bottom, c.deref.ensures.value) (share_some _ _ c.loop-share.invariant.some valid.some);
      short = rw (sum.top, sum.bottom, c.deref.ensures.value) (share_short _ _ _ _ _ c.loop-share.invariant.short (mod_below _ _ valid.some));
      small = omega (arith, small, c.loop-share.invariant.small);
      bottom = rw (sum.bottom, c.deref.ensures.value) (bottom_more _ _ _ _ bottom);
      top = rw (sum.top, sum.bottom, c.deref.ensures.value) (share_step _ _ _ _ _ _ c.args.parts _ _ _ valid.some bottom top);
    }

pub returns : goal.returns
returns c =
    let left = drop_all c.loop-share.share-index c.args.shares.now (omega arith) in
    let bottom = rw left at c.loop-share.invariant.bottom in
    let top = rw left at c.loop-share.invariant.top in
    rw (c.rounded_up.ensures, c.deref-2.ensures.value) (whole_and_rest _ _ _ c.args.parts _ _ (c.loop-share.invariant.some) bottom top)
