use Rattle.std.proofs.Common.{string_bytes}
use Rattle.frames.proofs.Puts.{put_both}
use Rattle.picture.proofs.document.body_of.Goals as goal

pub returns : goal.returns
returns c =
    let start = string_bytes c.new-text.result in
    let ground = rw (c.deref.ensures.value, c.in_ok-held.ensures.held) at c.in_ok-put_ground.ensures in
    let lanes = put_both start _ _ _ _ ground c.in_ok-put_lanes.ensures in
    let all = put_both start _ _ _ _ lanes c.in_ok-put_run.ensures in
    rw c.new-text.ensures.bytes at all
