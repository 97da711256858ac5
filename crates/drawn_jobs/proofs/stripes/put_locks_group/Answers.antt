use Rattle.std.proofs.Common.{append_assoc}
use Rattle.drawn_jobs.proofs.stripes.put_locks_group.Goals as goal

pub returns : goal.returns
returns c = simp append_assoc (simp (
  c.in_ok-put_lock_texts.ensures,
  c.in_ok-put_locks_head.ensures,
  c.in_ok-push_str.ensures.bytes,
  c.top_of-bottom.ensures.value,
  append_assoc,
) at c.writeln.ensures.bytes)
