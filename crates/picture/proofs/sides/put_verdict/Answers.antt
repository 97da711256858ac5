use Rattle.std.proofs.Common.{string_bytes}
use Rattle.frames.proofs.Puts.{put_both, put_last}
use Rattle.picture.proofs.sides.put_verdict.Goals as goal

pub returns : goal.returns
returns c =
    let start = string_bytes c.args.text.now in
    let title = rw (c.letters_behind.ensures, c.missed_letters.ensures.letters, c.missed_letters-2.ensures.letters)
    at c.in_ok-put_title_in.ensures in
    put_last _ start _ _ _ _ (put_both start _ _ _ _ (put_both start _ _ _ _ (put_both start _ _ _ _ (put_both start _ _ _ _ c.in_ok-push_str.ensures.bytes c.in_ok-put_missed.ensures) c.in_ok-push_str-2.ensures.bytes) c.in_ok-put_missed-2.ensures) title)
    c.writeln.ensures.bytes
