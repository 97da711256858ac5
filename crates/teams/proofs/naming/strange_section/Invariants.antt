use Rattle.std.proofs.Common.{◌≡◌, ◌+◌, drop}
use Rattle.teams.specs.Naming.{strange_section}
use Rattle.teams.proofs.naming.strange_section.Given as goal

abbrev pub invariant-loop-i : goal.invariant-loop-i
invariant-loop-i l = strange_section l.locks l.team l.task (l.i + 1) (drop l.i l.sections)
    ≡ strange_section l.locks l.team l.task 1 l.sections
