use Rattle.std.proofs.Common.{◌≡◌, ◌+◌, ◌-◌, ◌*◌, ◌≤◌, take}
use Rattle.task_sheet.proofs.Common.{calls_in}
use Rattle.limits.specs.Written.{written_sections}
use Rattle.limits.proofs.unpadded.written_sections.Given as goal

abbrev pub invariant-loop-section : goal.invariant-loop-section
invariant-loop-section l = record {
  before : l.before ≡ l.node.job - l.node.release + calls_in l.node
      (take l.section-index l.sections);
  items : l.others.items ≡ written_sections l.node (l.node.job - l.node.release)
      (take l.section-index l.sections);
  short : l.before ≤ 10000000 + l.section-index * 40000000;
}
