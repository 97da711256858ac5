use Rattle.std.proofs.Common.{◌≡◌, ◌≤◌, drop, length}
use Rattle.frames.specs.Locks.{noted_names}
use Rattle.frames.specs.declared.locks.TheConstants.{LOCKS_LIMIT}
use Rattle.frames.proofs.locks.note_names.Given as goal

abbrev pub invariant-loop-name : goal.invariant-loop-name
invariant-loop-name l = record {
  noted : noted_names l.locks.items (drop l.name-index l.names)
      ≡ noted_names l.fn.locks.items l.fn.names;
  few : length l.locks.items ≤ LOCKS_LIMIT;
}
