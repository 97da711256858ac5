use Rattle.std.proofs.Common.{◌∙◌, sym}
use Rattle.frames.proofs.Puts.{put_last}
use Rattle.drawn_jobs.proofs.lane.put_lane_slice.Goals as goal

pub returns : goal.returns
returns c =
    let label = rw (
      c.x_of-x.ensures.value,
      c.lane_right-right.ensures.value,
      c.level_of-level.ensures,
    ) at c.put_lane_label.ensures in
    rw (sym c.sees.ensures ∙ c.if-not-sees.false)
    (put_last _ _ _ _ _ _ c.in_ok-put_lane_bar.ensures label)
