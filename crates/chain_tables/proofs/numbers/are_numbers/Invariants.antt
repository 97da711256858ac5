use Rattle.std.proofs.Common.{◌≡◌, drop}
use Rattle.toml.specs.View.{items_view}
use Rattle.chain_tables.specs.Tables.{all_numbers}
use Rattle.chain_tables.proofs.numbers.are_numbers.Given as goal

abbrev pub invariant-loop-item : goal.invariant-loop-item
invariant-loop-item l =
    all_numbers (items_view (drop l.item-index l.items)) ≡ all_numbers (items_view l.items)
