use Rattle.std.proofs.Common.{◌≡◌, take, drop, map}
use Rattle.overheads.specs.Padding.{padded_task, padding_fault}
use Rattle.overheads.proofs.padding.padded_sheets.Given as goal

abbrev pub invariant-loop-sheet : goal.invariant-loop-sheet
invariant-loop-sheet l = record {
  room : padding_fault l.node (drop l.sheet-index l.sheets) ≡ padding_fault l.node l.sheets;
  items : l.others.items ≡ map (padded_task l.node) (take l.sheet-index l.sheets);
}
