use Rattle.std.proofs.Common.{◌≡◌, ◌++◌}
use Rattle.toml.specs.View.{members_view}
use Rattle.teams.specs.NodeDocument.{names_fault, names_of}
use Rattle.teams.proofs.node.read_names.Given as goal

abbrev pub invariant-loop-name : goal.invariant-loop-name
invariant-loop-name l =
    (goal.iterator-loop-name).can_next l.name-iterator
    × (goal.iterator-loop-name).is_finite l.name-iterator
    × (names_fault (members_view l.locks.entries) (members_view l.name-iterator)
    ≡ names_fault (members_view l.locks.entries) (members_view l.locks.entries))
    × (l.names.items ++ names_of (members_view l.locks.entries) (members_view l.name-iterator)
    ≡ names_of (members_view l.locks.entries) (members_view l.locks.entries))
