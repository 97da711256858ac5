use Rattle.std.proofs.Common.{string_bytes}
use Rattle.frames.proofs.Puts.{put_both, put_last}
use Rattle.picture.proofs.ground.put_ground.Goals as goal

pub returns : goal.returns
returns c =
    let start = string_bytes c.args.text.now in
    let verdict = rw c.all_missed-missed.ensures at c.in_ok-put_verdict.ensures in
    let ticks = rw (c.step_of.ensures.value, c.top_of.ensures.value) at c.in_ok-put_ticks.ensures in
    put_last _ start _ _ _ _ (put_both start _ _ _ _ (put_both start _ _ _ _ (put_both start _ _ _ _ (put_both start _ _ _ _ (put_both start _ _ _ _ (put_both start _ _ _ _ (put_both start _ _ _ _ c.in_ok-put_head.ensures c.in_ok-push_str.ensures.bytes) verdict) c.in_ok-put_what.ensures) ticks) c.in_ok-put_lane_line.ensures) c.in_ok-put_lines.ensures) c.in_ok-put_group.ensures)
    c.put_locks_group.ensures
