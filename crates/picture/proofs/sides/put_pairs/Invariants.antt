use Rattle.std.proofs.Common.{◌≡◌, ◌++◌, string_bytes}
use Rattle.frames.specs.PictureRows.{each}
use Rattle.picture.specs.Beside.{pair_text}
use Rattle.picture.proofs.sides.put_pairs.Given as goal

abbrev pub invariant-loop-n : goal.invariant-loop-n
invariant-loop-n l = string_bytes l.text ≡ string_bytes l.fn.text ++ each l.n (pair_text l.fn.frame)
