use Rattle.std.proofs.Common.{◌≡◌, ◌+◌, ◌*◌, ◌≤◌, drop}
use Rattle.loads.specs.Digits.{AreDigits, bottom_of, top_of}
use Rattle.loads.proofs.ShareLaws.{bottom_before, top_before}
use Rattle.loads.proofs.shares.plus.Given as goal

abbrev pub invariant-loop-digit : goal.invariant-loop-digit
invariant-loop-digit l =
    let rest = drop l.digit-index l.fraction in
    record {
      top : top_before l.sum.items
          (l.carry.top + (top_of rest * l.share.period + bottom_of rest * l.share.cost))
          ≡ top_of l.fraction * l.share.period + bottom_of l.fraction * l.share.cost;
      bottom : bottom_before l.sum.items (l.carry.bottom + bottom_of rest * l.share.period)
          ≡ bottom_of l.fraction * l.share.period;
      digits : AreDigits l.sum.items;
      small : l.carry.top ≤ 20000000;
      short : l.carry.bottom ≤ 10000000;
    }
