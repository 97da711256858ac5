use Rattle.std.proofs.Common.{◌≡◌, drop}
use Rattle.cert_checker.specs.Ready.{levels_of}
use Rattle.cert_checker.specs.Ages.{response_in}
use Rattle.cert_checker.proofs.ages.response_of.Given as goal

abbrev pub invariant-loop-level : goal.invariant-loop-level
invariant-loop-level l =
    response_in (levels_of l.set (drop l.level-index l.levels)) l.task
    ≡ response_in (levels_of l.set l.levels) l.task
