use Rattle.std.proofs.Common.{◌≡◌, map, take}
use Rattle.cert_checker.specs.Numbers.{numbered}
use Rattle.set_commands.proofs.certify.best_numbers.Given as goal

abbrev pub invariant-loop-chain : goal.invariant-loop-chain
invariant-loop-chain l =
    l.all.items ≡ map (numbered l.set l.levels.items) (take l.chain-index l.chains)
