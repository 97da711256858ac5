use Rattle.std.proofs.Common.{◌≡◌, drop}
use Rattle.two_input_commands.specs.Draw.{number_named}
use Rattle.two_input_commands.proofs.draw.number_named.Given as goal

abbrev pub invariant-loop-row : goal.invariant-loop-row
invariant-loop-row l =
    number_named (drop l.row-index l.settings) l.fn.name ≡ number_named l.fn.settings l.fn.name
