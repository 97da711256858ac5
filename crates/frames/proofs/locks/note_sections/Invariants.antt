use Rattle.std.proofs.Common.{◌≡◌, ◌≤◌, drop, length}
use Rattle.frames.specs.Locks.{noted_sections}
use Rattle.frames.specs.declared.locks.TheConstants.{LOCKS_LIMIT}
use Rattle.frames.proofs.locks.note_sections.Given as goal

abbrev pub invariant-loop-section : goal.invariant-loop-section
invariant-loop-section l = record {
  noted : noted_sections l.locks.items (drop l.section-index l.sections)
      ≡ noted_sections l.fn.locks.items l.fn.sections;
  few : length l.locks.items ≤ LOCKS_LIMIT;
}
