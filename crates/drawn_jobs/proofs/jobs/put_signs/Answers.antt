use Rattle.std.proofs.Common.{append_assoc}
use Rattle.drawn_jobs.proofs.jobs.put_signs.Goals as goal

pub returns : goal.returns
returns c = simp (
  c.in_ok-put_sign.ensures,
  c.top_of-y.ensures.value,
  c.start_of.ensures,
  c.run_end.ensures.value,
  append_assoc,
) at c.put_sign-2.ensures
