use Rattle.std.proofs.Common.{◌≡◌, ◌+◌, ◌*◌, ◌≤◌, sum_by, take}
use Rattle.task_sheet.specs.Demand.{releases_within, interrupt_within}
use Rattle.cert_checker.proofs.work.interrupts_of.Given as goal

abbrev pub invariant-loop-interrupt : goal.invariant-loop-interrupt
invariant-loop-interrupt l = record {
  total : l.taken ≡ releases_within l.sheet l.time * l.sheet.node.release + sum_by
      (interrupt_within l.time) (take l.interrupt-index l.interrupt-items);
  small : l.taken ≤ 190000000 + l.interrupt-index * 20000000;
}
