use Rattle.std.proofs.Common.{◌≡◌, take}
use Rattle.two_input_commands.specs.Simulate.{bounds_judged}
use Rattle.two_input_commands.proofs.simulate.bounds_judged.Given as goal

abbrev pub invariant-loop-entry : goal.invariant-loop-entry
invariant-loop-entry l = l.bounds.items ≡ bounds_judged (take l.entry-index l.judged)
