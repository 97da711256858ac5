use Rattle.std.proofs.Common.{◌≡◌, ◌++◌, drop}
use Rattle.toml.specs.View.{items_view}
use Rattle.owners.specs.Followers.{followers_of}
use Rattle.owners.proofs.followers.tree_followers.Given as goal

abbrev pub invariant-loop-item : goal.invariant-loop-item
invariant-loop-item l =
    l.owners.items ++ followers_of (items_view (drop l.item-index l.items))
    ≡ followers_of (items_view l.items)
