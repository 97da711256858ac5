use Rattle.std.proofs.Common.{◌≡◌, ◌++◌, drop}
use Rattle.toml.specs.View.{items_view}
use Rattle.owners.specs.Followers.{followers_from}
use Rattle.owners.proofs.followers.push_sections.Given as goal

abbrev pub invariant-loop-place : goal.invariant-loop-place
invariant-loop-place l =
    l.owners.items ++ followers_from l.task l.place (items_view (drop l.place l.items))
    ≡ l.fn.owners.items ++ followers_from l.task 0 (items_view l.items)
