use Rattle.std.proofs.Common.{◌≡◌, ◌++◌, string_bytes}
use Rattle.frames.specs.PictureRows.{each}
use Rattle.picture.specs.Waits.{scene_of}
use Rattle.picture.specs.WaitTexts.{nth_wait_text}
use Rattle.picture.proofs.why.put_stay.Given as goal

abbrev pub invariant-loop-n : goal.invariant-loop-n
invariant-loop-n l =
    string_bytes l.text ≡ string_bytes l.fn.text
    ++ each l.n (nth_wait_text (scene_of l.fn.chart) l.fn.stay l.fn.spot)
