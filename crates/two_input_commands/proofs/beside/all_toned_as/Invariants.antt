use Rattle.std.proofs.Common.{◌≡◌, map}
use Rattle.two_input_commands.specs.Beside.{toned_as}
use Rattle.two_input_commands.proofs.beside.all_toned_as.Given as goal

abbrev pub invariant-loop-row : goal.invariant-loop-row
invariant-loop-row l = l.toned.items ≡ map (toned_as l.fn.others) l.yielded
