use Rattle.std.proofs.Common.{append-nil, string_bytes}
use Rattle.frames.proofs.Puts.{put_both, put_last}
use Rattle.picture.proofs.sides.put_what.Goals as goal

pub returns : goal.returns
returns c =
    let start = string_bytes c.args.text.now in
    let changed = simp (c.all_changed-changed.ensures, c.known_to.ensures, append-nil)
    at c.in_ok-write.ensures.bytes in
    let window = rw c.later_of.ensures at c.in_ok-put_window.ensures in
    put_last _ start _ _ _ _ (put_both start _ _ _ _ (put_both start _ _ _ _ (put_both start _ _ _ _ (put_both start _ _ _ _ c.in_ok-push_str.ensures.bytes c.in_ok-put_sides_words.ensures) changed) c.in_ok-put_unrun_beside.ensures) window)
    c.writeln.ensures.bytes
