use Rattle.std.proofs.Common.{◌≡◌}
use Rattle.toml.specs.View.{members_view}
use Rattle.teams.specs.NodeDocument.{only_keys}
use Rattle.teams.proofs.node.only_keys.Given as goal

abbrev pub invariant-loop-key : goal.invariant-loop-key
invariant-loop-key l =
    (goal.iterator-loop-key).can_next l.key-iterator
    × (goal.iterator-loop-key).is_finite l.key-iterator
    × (only_keys l.keys (members_view l.key-iterator)
    ≡ only_keys l.keys (members_view l.table.entries))
