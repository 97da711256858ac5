use Rattle.limits.specs.Cuts.{none_follows}
use Rattle.limits.proofs.CutLaws.{valid-cut}
use Rattle.limits.proofs.cuts.cut_sheet.Goals as goal

pub with_parts-requires : goal.with_parts-requires
with_parts-requires c =
    rw (c.times_of-times.ensures, c.in_ok-sections.ensures)
    (valid-cut none_follows c.args.lock c.args.most c.args.sheet.now c.requires.some
    c.requires.valid)
