use Rattle.std.proofs.Common.{append-nil, append_assoc, string_bytes}
use Rattle.frames.proofs.Puts.{put_both, put_last}
use Rattle.picture.proofs.margin.put_row_name.Goals as goal

pub returns : goal.returns
returns c =
    let start = string_bytes c.args.text.now in
    let middle = string_bytes c.put_greatest.new.text in
    let named = c.name-name.ensures.same in
    let outcome = c.outcome_of-outcome.ensures in
    let head = simp (c.name_class-class.ensures, c.top_of.ensures.value, outcome.done, named, append_assoc)
    at c.in_ok-write.ensures.bytes in
    let greatest = rw (outcome.done, outcome.greatest, named) at c.in_ok-put_greatest.ensures in
    let bound = rw named at c.in_ok-write-2.ensures.bytes in
    let number = rw c.level_of.ensures at c.in_ok-put_number.ensures in
    let tail = simp (append-nil, append_assoc) at (put_last _ middle _ _ _ _
    (put_both middle _ _ _ _ bound number) c.writeln.ensures.bytes) in
    put_last _ start _ _ _ _ (put_both start _ _ _ _ head greatest) tail
