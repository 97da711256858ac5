use Rattle.std.proofs.Common.{◌≡◌, take}
use Rattle.other_numbers.proofs.others.copy_sections.Given as goal

abbrev pub invariant-loop-section : goal.invariant-loop-section
invariant-loop-section l = l.copies.items ≡ take l.section-index l.sections
