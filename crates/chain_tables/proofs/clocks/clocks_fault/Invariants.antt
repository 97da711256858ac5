use Rattle.std.proofs.Common.{◌≡◌, [], drop, take}
use Rattle.chain_tables.specs.Chains.{clocks_fault}
use Rattle.chain_tables.proofs.clocks.clocks_fault.Given as goal

abbrev pub invariant-loop-i : goal.invariant-loop-i
invariant-loop-i l =
    clocks_fault l.set (take l.i l.chains) (drop l.i l.chains) ≡ clocks_fault l.set [] l.chains
