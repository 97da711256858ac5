use Rattle.std.proofs.Common.{◌≡◌, ◌++◌, All, drop}
use Rattle.teams.specs.Budgets.{shares_by}
use Rattle.loads.specs.Shares.{IsShare}
use Rattle.teams.proofs.keeping.shares_by.Given as goal

abbrev pub invariant-loop-part : goal.invariant-loop-part
invariant-loop-part l = record {
  are : l.shares.items ++ shares_by (drop l.part-index l.sets) l.team ≡ shares_by l.sets l.team;
  valid : All IsShare l.shares.items;
}
