use Rattle.picture.specs.Waits.{EndBy}
use Rattle.picture.proofs.waits.ended_by.Given as goal

abbrev pub invariant-loop-n : goal.invariant-loop-n
invariant-loop-n l = EndBy l.fn.slices l.n l.fn.time
