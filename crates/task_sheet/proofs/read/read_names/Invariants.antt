use Rattle.std.proofs.Common.{◌≡◌, ◌++◌, drop}
use Rattle.std.specs.List.{list_all}
use Rattle.toml.specs.View.{items_view}
use Rattle.task_sheet.specs.Name.{is_name}
use Rattle.task_sheet.specs.Tree.{strings_in}
use Rattle.task_sheet.proofs.read.read_names.Given as goal

abbrev pub invariant-loop-item : goal.invariant-loop-item
invariant-loop-item l = record {
  named : list_all is_name (strings_in (items_view (drop l.item-index l.items)))
      ≡ list_all is_name (strings_in (items_view l.items));
  read : l.names.items ++ strings_in (items_view (drop l.item-index l.items))
      ≡ strings_in (items_view l.items);
}
