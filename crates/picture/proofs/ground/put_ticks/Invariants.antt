use Rattle.frames.specs.PictureRows.{each}
use Rattle.std.proofs.Common.{◌≡◌, ◌+◌, ◌*◌, ◌++◌, string_bytes}
use Rattle.picture.specs.Scale.{tick_text}
use Rattle.frames.specs.Frame.{steps_before}
use Rattle.picture.proofs.ground.put_ticks.Given as goal

abbrev pub invariant-loop-i : goal.invariant-loop-i
invariant-loop-i l = string_bytes l.text ≡ string_bytes l.fn.text ++ each l.i (λ i. tick_text
    l.fn.frame l.fn.bottom ((steps_before l.fn.frame l.fn.step + i) * l.fn.step))
