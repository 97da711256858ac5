use Rattle.std.proofs.Common.{◌≡◌, ◌+◌, ◌*◌, ◌≤◌, drop}
use Rattle.explain.specs.Parts.{timers_within}
use Rattle.explain.proofs.parts.timers_within.Given as goal

abbrev pub invariant-loop-sheet : goal.invariant-loop-sheet
invariant-loop-sheet l = record {
  sum : l.total + timers_within (drop l.sheet-index l.set) l.time ≡ timers_within l.set l.time;
  short : l.total ≤ l.sheet-index * 20000000000;
}
