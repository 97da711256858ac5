use Rattle.std.proofs.Common.{◌≡◌, take, map}
use Rattle.limits.proofs.CutLaws.{cut_one}
use Rattle.limits.proofs.cuts.cut_sections.Given as goal

abbrev pub invariant-loop-section : goal.invariant-loop-section
invariant-loop-section l =
    l.others.items ≡ map (cut_one l.lock l.most l.node) (take l.section-index l.sections)
