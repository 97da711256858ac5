use Rattle.std.proofs.Common.{◌≡◌, ◌++◌, drop, map}
use Rattle.two_input_commands.specs.Simulate.{level_of_bound}
use Rattle.two_input_commands.proofs.reached.levels_of.Given as goal

abbrev pub invariant-loop-entry : goal.invariant-loop-entry
invariant-loop-entry l =
    l.levels.items ++ map level_of_bound (drop l.entry-index l.bounds) ≡ map level_of_bound l.bounds
