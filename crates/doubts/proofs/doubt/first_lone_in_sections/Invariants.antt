use Rattle.std.proofs.Common.{◌≡◌, drop}
use Rattle.doubts.specs.Doubts.{first_of, lone_in_sections}
use Rattle.doubts.proofs.doubt.first_lone_in_sections.Given as goal

abbrev pub invariant-loop-section : goal.invariant-loop-section
invariant-loop-section l =
    first_of (lone_in_sections l.sheets l.task (drop l.section-index l.sections)) ≡ first_of (lone_in_sections l.sheets l.task l.sections)
