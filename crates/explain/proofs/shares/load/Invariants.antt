use Rattle.std.proofs.Common.{◌≡◌, ◌++◌, ◌*◌, ◌≤◌, All, drop, length}
use Rattle.explain.specs.Load.{set_shares}
use Rattle.loads.specs.Shares.{IsShare}
use Rattle.explain.proofs.shares.load.Given as goal

abbrev pub invariant-loop-sheet : goal.invariant-loop-sheet
invariant-loop-sheet l = record {
  are : l.shares.items ++ set_shares (drop l.sheet-index l.set) ≡ set_shares l.set;
  valid : All IsShare l.shares.items;
  few : length l.shares.items ≤ 10 * l.sheet-index;
}
