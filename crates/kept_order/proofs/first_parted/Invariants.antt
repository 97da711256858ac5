use Rattle.std.proofs.Common.{◌≤◌}
use Rattle.kept_order.proofs.KeepsLaws.{SomeKeeps}
use Rattle.kept_order.proofs.first_parted.Given as goal

-- some order keeps what is below
abbrev pub invariant-loop-high : goal.invariant-loop-high
invariant-loop-high l = record {
  from : 1 ≤ l.high;
  some : SomeKeeps l.set l.kept l.high;
}
