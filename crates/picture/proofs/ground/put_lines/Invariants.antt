use Rattle.std.proofs.Common.{◌≡◌, ◌++◌, string_bytes}
use Rattle.frames.specs.PictureRows.{each}
use Rattle.picture.specs.Scale.{line_text}
use Rattle.picture.proofs.ground.put_lines.Given as goal

abbrev pub invariant-loop-k : goal.invariant-loop-k
invariant-loop-k l =
    string_bytes l.text ≡ string_bytes l.fn.text ++ each l.k (line_text l.fn.chart.frame)
