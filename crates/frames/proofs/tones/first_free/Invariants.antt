use Rattle.std.proofs.Common.{◌≡◌, ◌+◌, ◌-◌}
use Rattle.frames.specs.Tones.{first_free}
use Rattle.frames.proofs.tones.first_free.Given as goal

abbrev pub invariant-loop-i : goal.invariant-loop-i
invariant-loop-i l =
    first_free l.fn.given (l.from + l.i) (l.count - l.i) ≡ first_free l.fn.given l.from l.count
