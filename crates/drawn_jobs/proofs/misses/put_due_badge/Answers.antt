use Rattle.std.proofs.Common.{◌∙◌, sym}
use Rattle.drawn_jobs.proofs.misses.put_due_badge.Goals as goal

pub returns : goal.returns
returns c = rw (sym c.has_badge.ensures ∙ c.if-not-has_badge.false) (rw (← c.deadline.ensures)
    (rw (← c.x_after-x.ensures.value) (rw (← c.top_of.ensures.value) c.put_badge.ensures)))
