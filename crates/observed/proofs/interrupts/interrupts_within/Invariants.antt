use Rattle.std.proofs.Common.{◌≡◌, ◌≤◌, ◌*◌}
use Rattle.observed.proofs.InterruptSums.{interrupts_first}
use Rattle.observed.proofs.interrupts.interrupts_within.Given as goal

abbrev pub invariant-loop-sheet : goal.invariant-loop-sheet
invariant-loop-sheet l = record {
  total : l.taken ≡ interrupts_first l.sheet-items l.time l.sheet-index;
  short : l.taken ≤ l.sheet-index * 368934881474291032320;
}
