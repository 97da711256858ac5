use Rattle.std.proofs.Common.{◌≡◌, ◌-◌}
use Rattle.chains.specs.Walks.{first_whole}
use Rattle.chains.proofs.walks.first_whole.Given as goal

abbrev pub invariant-loop-n : goal.invariant-loop-n
invariant-loop-n l =
    first_whole l.steps l.period (10001 - l.n) l.n ≡ first_whole l.steps l.period 10000 1
