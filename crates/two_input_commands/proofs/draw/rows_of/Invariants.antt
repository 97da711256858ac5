use Rattle.std.proofs.Common.{◌≡◌, ◌-◌, length, drop}
use Rattle.drawn_runs.specs.DrawnRows.{rows_of}
use Rattle.two_input_commands.specs.Draw.{looks_of}
use Rattle.two_input_commands.proofs.draw.rows_of.Given as goal

abbrev pub invariant-loop-i : goal.invariant-loop-i
invariant-loop-i l = l.rows.items
    ≡ rows_of l.fn.set (looks_of l.fn.looks) (drop (length l.bounds - l.i) l.bounds)
