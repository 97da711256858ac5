use Rattle.std.proofs.Common.{◌∙◌, append_assoc, sym}
use Rattle.drawn_jobs.proofs.parts.put_part.Goals as goal

pub returns : goal.returns
returns c =
    let part = c.part_in-x.ensures in
    rw (sym c.sees.ensures ∙ c.if-not-sees.false) (simp append_assoc (simp (
      c.in_ok-put_stripes.ensures,
      c.in_ok-put_part_box.ensures,
      part.left,
      part.right,
      append_assoc,
    ) at c.put_label.ensures))
