use Rattle.std.proofs.Common.{◌≡◌, ◌+◌, drop, true}
use Rattle.toml.specs.View.{items_view}
use Rattle.task_sheet.specs.Tree.{all_tables, tables_in}
use Rattle.chain_tables.proofs.TableLaws.{AreReadTables}
use Rattle.chain_tables.proofs.documents.read_tables.Given as goal

abbrev pub invariant-loop-i : goal.invariant-loop-i
invariant-loop-i l = record {
  tables : all_tables (items_view (drop l.i l.items)) ≡ true;
  read : AreReadTables l.whose (tables_in (items_view l.items)) (l.i + 1)
      (tables_in (items_view (drop l.i l.items))) l.chains.items;
}
