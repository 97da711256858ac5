use Rattle.std.proofs.Common.{◌≡◌, drop}
use Rattle.toml.specs.View.{items_view}
use Rattle.task_sheet.specs.Tree.{all_strings}
use Rattle.task_sheet.proofs.values.are_strings.Given as goal

abbrev pub invariant-loop-item : goal.invariant-loop-item
invariant-loop-item l =
    all_strings (items_view (drop l.item-index l.items)) ≡ all_strings (items_view l.items)
