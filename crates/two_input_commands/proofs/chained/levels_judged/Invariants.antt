use Rattle.std.proofs.Common.{◌≡◌, ◌++◌, drop}
use Rattle.two_input_commands.specs.Chained.{levels_judged}
use Rattle.two_input_commands.proofs.chained.levels_judged.Given as goal

abbrev pub invariant-loop-entry : goal.invariant-loop-entry
invariant-loop-entry l =
    l.levels.items ++ levels_judged (drop l.entry-index l.judged) ≡ levels_judged l.judged
