use Rattle.std.proofs.Common.{string_bytes}
use Rattle.frames.proofs.Puts.{put_both}
use Rattle.picture.proofs.beside.body_beside.Goals as goal

pub returns : goal.returns
returns c =
    let start = string_bytes c.new-text.result in
    let ground = rw (c.deref.ensures.value, c.in_ok-held.ensures.held) at c.in_ok-put_ground_beside.ensures in
    let changes = rw c.known_to.ensures at c.in_ok-put_changes.ensures in
    let lanes = put_both start _ _ _ _ ground c.in_ok-put_lanes_beside.ensures in
    let sides = put_both start _ _ _ _ (put_both start _ _ _ _ lanes c.in_ok-put_side.ensures) c.in_ok-put_side-2.ensures in
    let all = put_both start _ _ _ _ sides changes in
    rw c.new-text.ensures.bytes at all
