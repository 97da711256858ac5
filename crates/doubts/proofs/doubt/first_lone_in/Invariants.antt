use Rattle.std.proofs.Common.{◌≡◌, drop}
use Rattle.doubts.specs.Doubts.{first_of, lone_in}
use Rattle.doubts.proofs.doubt.first_lone_in.Given as goal

abbrev pub invariant-loop-lock : goal.invariant-loop-lock
invariant-loop-lock l =
    first_of (lone_in l.sheets l.task (drop l.lock-index l.locks)) ≡ first_of (lone_in l.sheets l.task l.locks)
