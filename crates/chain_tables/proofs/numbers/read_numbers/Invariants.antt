use Rattle.std.proofs.Common.{◌≡◌, ◌++◌, drop}
use Rattle.toml.specs.View.{items_view}
use Rattle.chain_tables.specs.Tables.{numbers_in}
use Rattle.chain_tables.proofs.numbers.read_numbers.Given as goal

abbrev pub invariant-loop-item : goal.invariant-loop-item
invariant-loop-item l = l.numbers.items ++ numbers_in (items_view (drop l.item-index l.items))
    ≡ numbers_in (items_view l.items)
