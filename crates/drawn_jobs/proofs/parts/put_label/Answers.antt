use Rattle.std.proofs.Common.{◌∙◌, append_assoc, sym}
use Rattle.drawn_jobs.proofs.parts.put_label.Goals as goal

pub returns : goal.returns
returns c = rw (← c.saturating_sub.ensures, sym c.fits.ensures ∙ c.if-not-fits.false) (simp (
  c.in_ok-put_names.ensures,
  c.in_ok-write.ensures.bytes,
  c.label_class-class.ensures,
  c.top_of.ensures.value,
  c.label_depth.ensures.value,
  c.are_several-several.ensures,
  append_assoc,
) at c.writeln.ensures.bytes)
