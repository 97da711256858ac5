use Rattle.std.proofs.Common.{◌≡◌, length}
use Rattle.doubts.specs.Doubts.{first_of, rises}
use Rattle.doubts.proofs.doubt.first_rise.Given as goal

abbrev pub invariant-loop-lower : goal.invariant-loop-lower
invariant-loop-lower l = first_of (rises l.rest) ≡ first_of (rises l.sheets)

abbrev pub decreases-loop-lower : goal.decreases-loop-lower
decreases-loop-lower l = length l.rest
