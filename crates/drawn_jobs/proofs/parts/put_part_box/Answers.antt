use Rattle.std.proofs.Common.{append_assoc}
use Rattle.drawn_jobs.proofs.parts.put_part_box.Goals as goal

pub returns : goal.returns
returns c = simp append_assoc (simp (
  c.in_ok-put_names.ensures,
  c.in_ok-write.ensures.bytes,
  c.top_of.ensures.value,
  c.name-name.ensures.same,
  append_assoc,
) at c.writeln.ensures.bytes)
