use Rattle.std.proofs.Common.{◌≡◌, ◌≤◌, drop, length}
use Rattle.drawn_jobs.specs.Held.{held_inside}
use Rattle.frames.specs.declared.locks.TheConstants.{LOCKS_LIMIT}
use Rattle.drawn_jobs.proofs.held.note_sections.Given as goal

abbrev pub invariant-loop-section : goal.invariant-loop-section
invariant-loop-section l = record {
  noted : held_inside l.frame l.executed l.slice l.held.items (drop l.section-index l.sections)
      ≡ held_inside l.fn.frame l.fn.executed l.fn.slice l.fn.held.items l.fn.sections;
  few : length l.held.items ≤ LOCKS_LIMIT;
}
