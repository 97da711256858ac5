use Rattle.std.proofs.Common.{◌≡◌, drop}
use Rattle.doubts.specs.Doubts.{first_of, lone_locks}
use Rattle.doubts.proofs.doubt.first_lone_lock.Given as goal

abbrev pub invariant-loop-sheet : goal.invariant-loop-sheet
invariant-loop-sheet l =
    first_of (lone_locks l.all (drop l.sheet-index l.sheets)) ≡ first_of (lone_locks l.all l.sheets)
