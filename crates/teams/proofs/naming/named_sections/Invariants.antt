use Rattle.std.proofs.Common.{◌≡◌, ◌++◌, drop, map}
use Rattle.teams.specs.Naming.{named_section}
use Rattle.teams.proofs.naming.named_sections.Given as goal

abbrev pub invariant-loop-section : goal.invariant-loop-section
invariant-loop-section l = l.named.items ++ map (named_section l.locks) (drop l.section-index l.sections)
    ≡ map (named_section l.locks) l.sections
