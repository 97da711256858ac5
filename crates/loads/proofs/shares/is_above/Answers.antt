use Rattle.std.proofs.Common.{arith, sym}
use Rattle.std.proofs.lemmas.Bool.{lt-ltb, le-ltb}
use Rattle.loads.specs.declared.shares.Digit.{Digit}
use Rattle.loads.proofs.ShareLaws.{digit_above, digit_below, digit_next}
use Rattle.loads.proofs.shares.is_above.Goals as goal

none : Digit
none = record { top = 0; bottom = 0 }

pub returns-then-has-needs : goal.returns-then-has-needs
unfolding none
returns-then-has-needs c =
    let less = digit_below c.args.number c.loop-i.i c.loop-i.excess c.args.fraction.now none
    c.requires.digits (omega arith) (omega arith) c.loop-i.invariant.rest c.if-has-needs.true in
    sym (le-ltb _ _ (omega (arith, less)))

pub returns-then-excess-number : goal.returns-then-excess-number
unfolding none
returns-then-excess-number c =
    let more = digit_above c.args.number c.loop-i.i c.loop-i.excess c.args.fraction.now none
    c.requires.digits (omega arith) (omega arith) c.loop-i.invariant.rest c.if-excess-number.true in
    sym (lt-ltb _ _ more)

pub loop-i-preserved : goal.loop-i-preserved
unfolding none
loop-i-preserved c = record {
  short = c.if-excess-number.false;
  rest = digit_next c.args.number c.loop-i.i c.loop-i.excess c.args.fraction.now none
      (omega arith) (omega arith) c.loop-i.invariant.rest c.if-has-needs.false;
}
