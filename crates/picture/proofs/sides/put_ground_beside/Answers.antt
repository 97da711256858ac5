use Rattle.std.proofs.Common.{string_bytes}
use Rattle.frames.proofs.Puts.{put_both, put_last}
use Rattle.picture.proofs.sides.put_ground_beside.Goals as goal

pub returns : goal.returns
returns c =
    let start = string_bytes c.args.text.now in
    let verdict = rw (c.all_missed-before.ensures, c.all_missed-after.ensures)
    at c.in_ok-put_verdict.ensures in
    let what = rw c.in_millis.ensures at c.in_ok-put_what.ensures in
    let ticks = rw (c.step_of.ensures.value, c.top_of.ensures.value) at c.in_ok-put_ticks.ensures in
    put_last _ start _ _ _ _ (put_both start _ _ _ _ (put_both start _ _ _ _ (put_both start _ _ _ _ (put_both start _ _ _ _ (put_both start _ _ _ _ (put_both start _ _ _ _ c.in_ok-put_head.ensures c.in_ok-put_styles.ensures) verdict) what) ticks) c.in_ok-put_pairs.ensures) c.in_ok-put_margins_beside.ensures)
    c.put_locks_group.ensures
