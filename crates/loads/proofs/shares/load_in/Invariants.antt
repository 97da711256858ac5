use Rattle.std.proofs.Common.{◌≡◌, ◌+◌, ◌*◌, ◌<◌, ◌≤◌, drop}
use Rattle.loads.specs.Digits.{AreDigits, bottom_of, top_of}
use Rattle.loads.specs.Shares.{costs_of, periods_of}
use Rattle.loads.proofs.shares.load_in.Given as goal

abbrev pub invariant-loop-share : goal.invariant-loop-share
invariant-loop-share l =
    let left = drop l.share-index l.shares in
    record {
      digits : AreDigits l.rest.items;
      some : 0 < bottom_of l.rest.items;
      short : top_of l.rest.items ≤ l.share-index * bottom_of l.rest.items;
      small : l.whole ≤ 10000000000000 * l.share-index;
      bottom : bottom_of l.rest.items * periods_of left ≡ periods_of l.shares;
      top : (l.whole * bottom_of l.rest.items + top_of l.rest.items) * periods_of left
          + bottom_of l.rest.items * (costs_of left * l.parts) ≡ costs_of l.shares * l.parts;
    }
