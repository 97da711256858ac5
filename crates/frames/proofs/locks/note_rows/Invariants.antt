use Rattle.std.proofs.Common.{◌≡◌, ◌≤◌, drop, length}
use Rattle.frames.specs.Locks.{noted_rows}
use Rattle.frames.specs.declared.locks.TheConstants.{LOCKS_LIMIT}
use Rattle.frames.proofs.locks.note_rows.Given as goal

abbrev pub invariant-loop-row : goal.invariant-loop-row
invariant-loop-row l = record {
  noted : noted_rows l.locks.items (drop l.row-index l.rows) ≡ noted_rows l.fn.locks.items l.fn.rows;
  few : length l.locks.items ≤ LOCKS_LIMIT;
}
