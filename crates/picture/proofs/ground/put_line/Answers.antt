use Rattle.std.proofs.Common.{rules}
use Rattle.picture.proofs.ground.put_line.Goals as goal

pub returns : goal.returns
returns c = rw (
  ← c.top_of-top.ensures.value,
  ← c.end_of-end.ensures.value,
  ← c.start_of-start.ensures,
) (search rules)
