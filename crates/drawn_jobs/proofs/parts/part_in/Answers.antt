use Rattle.std.proofs.Common.{arith, refl}
use Rattle.drawn_jobs.proofs.parts.part_in.Goals as goal

pub returns-clause-left : goal.returns-clause-left
returns-clause-left c = rw (
  c.min-left.ensures,
  c.max-end.ensures,
  c.x_of-3.ensures.value,
  c.x_of-2.ensures.value,
  c.x_of.ensures.value,
) refl

pub returns-clause-right : goal.returns-clause-right
returns-clause-right c = rw (
  c.min-right.ensures,
  c.max.ensures,
  c.min-left.ensures,
  c.max-end.ensures,
  c.x_of-4.ensures.value,
  c.x_of-3.ensures.value,
  c.x_of-2.ensures.value,
  c.x_of.ensures.value,
) refl

pub returns-clause-within : goal.returns-clause-within
returns-clause-within c = omega (
  arith,
  c.min-right.ensures,
  c.max.ensures,
  c.min-left.ensures,
  c.max-end.ensures,
  c.x_of-4.ensures.within,
  c.x_of-3.ensures.within,
  c.x_of-2.ensures.within,
  c.x_of.ensures.within,
)
