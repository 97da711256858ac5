use Rattle.std.proofs.Common.{append_assoc}
use Rattle.drawn_jobs.proofs.misses.put_hatch.Goals as goal

pub returns : goal.returns
returns c = simp append_assoc (simp (
  c.in_ok-put_told.ensures,
  c.in_ok-write.ensures.bytes,
  c.max.ensures,
  c.x_of.ensures.value,
  c.ended.ensures,
  c.top_of.ensures.value,
  c.x_after-x.ensures.value,
  c.deadline-deadline.ensures,
  append_assoc,
) at c.writeln.ensures.bytes)
