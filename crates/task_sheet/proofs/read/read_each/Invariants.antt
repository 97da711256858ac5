use Rattle.std.proofs.Common.{◌≡◌, ◌+◌, drop, true}
use Rattle.toml.specs.View.{items_view}
use Rattle.task_sheet.specs.Tree.{all_tables, tables_in}
use Rattle.task_sheet.proofs.TreeLaws.{AreReadInterrupts}
use Rattle.task_sheet.proofs.read.read_each.Given as goal

abbrev pub invariant-loop-i : goal.invariant-loop-i
invariant-loop-i l = record {
  tables : all_tables (items_view (drop l.i l.items)) ≡ true;
  read : AreReadInterrupts (tables_in (items_view l.items)) (l.i + 1)
      (tables_in (items_view (drop l.i l.items))) l.interrupts.items;
}
