use Rattle.std.proofs.Common.{◌≡◌, ◌+◌, ◌*◌, ◌≤◌, drop}
use Rattle.loads.specs.Digits.{bottom_of, top_of}
use Rattle.loads.proofs.shares.is_above.Given as goal

abbrev pub invariant-loop-i : goal.invariant-loop-i
invariant-loop-i l = record {
  short : l.excess ≤ l.number;
  rest : top_of (drop l.i l.fraction)
      ≡ l.excess + l.number * bottom_of (drop l.i l.fraction);
}
