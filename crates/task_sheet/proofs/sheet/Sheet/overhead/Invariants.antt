use Rattle.std.proofs.Common.{◌≡◌, ◌+◌, ◌-◌, ◌*◌, ◌≤◌, take}
use Rattle.task_sheet.proofs.Common.{calls_in}
use Rattle.task_sheet.proofs.sheet.Sheet.overhead.Given as goal

abbrev pub invariant-loop-section : goal.invariant-loop-section
invariant-loop-section l = record {
  total : l.overhead ≡ l.self.node.job - l.self.node.release + calls_in l.self.node
      (take l.section-index l.section-items);
  short : l.overhead ≤ 10000000 + l.section-index * 40000000;
}
