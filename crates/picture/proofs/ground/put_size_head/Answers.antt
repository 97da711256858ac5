use Rattle.frames.proofs.Puts.{put_last}
use Rattle.picture.proofs.ground.put_size_head.Goals as goal

pub returns : goal.returns
returns c = rw (← c.frame.view_is)
    (put_last _ _ _ _ _ _ c.in_ok-push_str.ensures.bytes c.put_size.ensures)
