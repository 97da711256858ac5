use Rattle.std.proofs.Common.{◌≡◌, ◌+◌, drop, true}
use Rattle.toml.specs.View.{items_view}
use Rattle.task_sheet.specs.Tree.{all_tables, tables_in}
use Rattle.task_sheet.proofs.TreeLaws.{AreRead}
use Rattle.task_sheet.proofs.read.read_sections.Given as goal

abbrev pub invariant-loop-i : goal.invariant-loop-i
invariant-loop-i l = record {
  tables : all_tables (items_view (drop l.i l.items)) ≡ true;
  read : AreRead l.task (tables_in (items_view l.items)) (l.i + 1)
      (tables_in (items_view (drop l.i l.items))) l.read.sections.items l.read.end l.read.bad;
}
