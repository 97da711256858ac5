use Rattle.std.proofs.Common.{◌≡◌, take}
use Rattle.set_commands.specs.Certify.{levels_in}
use Rattle.set_commands.proofs.certify.levels_in.Given as goal

abbrev pub invariant-loop-level : goal.invariant-loop-level
invariant-loop-level l = l.all.items ≡ levels_in (take l.level-index l.levels)
