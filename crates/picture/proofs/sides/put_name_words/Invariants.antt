use Rattle.std.proofs.Common.{◌≡◌, ◌++◌, string_bytes}
use Rattle.frames.specs.PictureRows.{at_spot, each, spot_in}
use Rattle.picture.specs.Beside.{name_word}
use Rattle.picture.proofs.sides.put_name_words.Given as goal

abbrev pub invariant-loop-k : goal.invariant-loop-k
invariant-loop-k l = string_bytes l.text ≡ string_bytes l.fn.text ++ each l.k
    (λ k. at_spot l.fn.chart.rows.now (spot_in l.fn.chart.shown.now k) (name_word l.fn.word))
