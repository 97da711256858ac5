use Rattle.std.proofs.Common.{◌≡◌, ◌++◌}
use Rattle.toml.specs.View.{members_view}
use Rattle.teams.specs.NodeDocument.{budgets_of, entries_fault}
use Rattle.teams.proofs.node.read_entries.Given as goal

abbrev pub invariant-loop-name : goal.invariant-loop-name
invariant-loop-name l =
    (goal.iterator-loop-name).can_next l.name-iterator
    × (goal.iterator-loop-name).is_finite l.name-iterator
    × (entries_fault (members_view l.name-iterator) ≡ entries_fault (members_view l.table.entries))
    × (l.budgets.items ++ budgets_of (members_view l.name-iterator)
    ≡ budgets_of (members_view l.table.entries))
