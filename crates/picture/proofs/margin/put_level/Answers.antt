use Rattle.picture.proofs.margin.put_level.Goals as goal

pub returns : goal.returns
returns c = rw (
  c.level_of-level.ensures,
  c.top_of.ensures.value,
  c.top_of-2.ensures.value,
) at c.write.ensures.bytes
