use Rattle.std.proofs.Common.{◌≡◌, drop}
use Rattle.chains.specs.Parts.{response_in}
use Rattle.chains.proofs.bounds.response_of.Given as goal

abbrev pub invariant-loop-level : goal.invariant-loop-level
invariant-loop-level l =
    response_in (drop l.level-index l.levels) l.task ≡ response_in l.levels l.task
