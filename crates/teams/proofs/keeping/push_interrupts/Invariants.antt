use Rattle.std.proofs.Common.{◌≡◌, ◌++◌, All, drop, map}
use Rattle.teams.specs.Budgets.{interrupt_share}
use Rattle.loads.specs.Shares.{IsShare}
use Rattle.teams.proofs.keeping.push_interrupts.Given as goal

abbrev pub invariant-loop-interrupt : goal.invariant-loop-interrupt
invariant-loop-interrupt l = record {
  are : l.shares.items ++ map interrupt_share (drop l.interrupt-index l.interrupts)
      ≡ l.fn.shares.items ++ map interrupt_share l.interrupts;
  valid : All IsShare l.shares.items;
}
