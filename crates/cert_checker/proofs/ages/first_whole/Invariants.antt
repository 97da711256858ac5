use Rattle.std.proofs.Common.{◌≡◌, ◌-◌, []}
use Rattle.chains.specs.Walks.{first_whole, steps_with}
use Rattle.cert_checker.proofs.ages.first_whole.Given as goal

abbrev pub invariant-loop-n : goal.invariant-loop-n
invariant-loop-n l =
    first_whole (steps_with l.set [] [] l.tasks) l.period (10001 - l.n) l.n
    ≡ first_whole (steps_with l.set [] [] l.tasks) l.period 10000 1
