use Rattle.std.proofs.Common.{◌≡◌, ◌≤◌, drop}
use Rattle.frames.specs.Frame.{widest_margin, left_of}
use Rattle.frames.specs.declared.frame.TheConstants.{WIDEST_MARGIN}
use Rattle.frames.proofs.frame.left_of.Given as goal

abbrev pub invariant-loop-row : goal.invariant-loop-row
invariant-loop-row l = record {
  value : widest_margin l.fn.millis l.left (drop l.row-index l.rows) ≡ left_of l.fn.millis l.fn.rows;
  within : l.left ≤ WIDEST_MARGIN;
}
