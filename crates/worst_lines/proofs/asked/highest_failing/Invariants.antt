use Rattle.std.proofs.Common.{◌≡◌, ◌<◌, drop, length, IfSome}
use Rattle.worst_lines.specs.Asked.{failing_of, highest_failing}
use Rattle.worst_lines.proofs.asked.highest_failing.Given as goal

abbrev pub invariant-loop-entry : goal.invariant-loop-entry
invariant-loop-entry l = record {
  so_far : failing_of l.found (drop l.entry-index l.judged) ≡ highest_failing l.judged;
  within : IfSome l.found (λ j. j.task < length l.set);
}
