use Rattle.std.proofs.Common.{◌∙◌, sym}
use Rattle.drawn_ways.proofs.way.put_age.Goals as goal

pub returns : goal.returns
returns c = rw (sym c.sees.ensures ∙ c.if-not-sees.false) (rw (
  c.age_x-x.ensures,
  c.top_of.ensures.value,
  c.age_of.ensures,
) at c.write.ensures.bytes)
