use Rattle.std.proofs.Common.{append-nil, append_assoc, string_bytes}
use Rattle.frames.specs.Frame.{in_millis}
use Rattle.frames.specs.Numbers.{unit_text}
use Rattle.frames.proofs.Puts.{put_both, put_last}
use Rattle.picture.proofs.ground.put_what.Goals as goal

pub returns : goal.returns
returns c =
    let start = string_bytes c.args.text.now in
    let run = rw (← append-nil (unit_text (in_millis c.args.frame)))
    at (simp (c.unit_of-unit.ensures, c.in_millis-millis.ensures, append_assoc)
    at c.in_ok-write.ensures.bytes) in
    let window = rw c.in_millis-millis.ensures at c.in_ok-put_window.ensures in
    put_last _ start _ _ _ _ (put_both start _ _ _ _ (put_both start _ _ _ _ run
    c.in_ok-put_unrun.ensures) window) c.writeln.ensures.bytes
