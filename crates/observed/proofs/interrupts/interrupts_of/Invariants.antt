use Rattle.std.proofs.Common.{◌≡◌, ◌≤◌, ◌+◌, ◌*◌, take, sum_by}
use Rattle.task_sheet.specs.Demand.{interrupt_within}
use Rattle.observed.proofs.interrupts.interrupts_of.Given as goal

abbrev pub invariant-loop-interrupt : goal.invariant-loop-interrupt
invariant-loop-interrupt l = record {
  total : l.taken ≡ l.initial.taken + sum_by (interrupt_within l.time)
      (take l.interrupt-index l.interrupt-items);
  short : l.taken ≤ 36893488147429103232 + l.interrupt-index * 36893488147429103232;
}
