use Rattle.std.proofs.Common.{◌≡◌, ◌<◌, drop, length, IfSome}
use Rattle.worst_lines.specs.Asked.{tightest, tightest_of}
use Rattle.worst_lines.proofs.asked.tightest.Given as goal

abbrev pub invariant-loop-entry : goal.invariant-loop-entry
invariant-loop-entry l = record {
  so_far : tightest_of l.set l.found (drop l.entry-index l.judged) ≡ tightest l.set l.judged;
  within : IfSome l.found (λ j. j.task < length l.set);
}
