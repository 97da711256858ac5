use Rattle.std.proofs.Common.{◌≡◌, drop}
use Rattle.chain_worst.specs.Arrivals.{against}
use Rattle.chain_worst.proofs.arrivals.against.Given as goal

abbrev pub invariant-loop-aim : goal.invariant-loop-aim
invariant-loop-aim l =
    against l.sheet l.rank l.until (drop l.aim-index l.aims) l.time ≡ against l.sheet l.rank l.until l.aims l.time
