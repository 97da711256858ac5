use Rattle.std.proofs.Common.{refl}
use Rattle.drawn_jobs.proofs.jobs.limit_box.Goals as goal

pub returns-clause-right : goal.returns-clause-right
returns-clause-right c = rw (
  c.bar_of.ensures.right,
  c.x_of.ensures.value,
  c.x_after-right.ensures.value,
  c.limit_of.ensures,
) refl
