use Rattle.std.proofs.Common.{◌≡◌, ◌++◌, string_bytes}
use Rattle.diff.specs.Keys.{words_below}
use Rattle.diff.specs.Whole.{came_at}
use Rattle.diff.proofs.whole.push_all_came.Given as goal

abbrev pub invariant-loop-place : goal.invariant-loop-place
invariant-loop-place l =
    string_bytes l.text ≡ string_bytes l.fn.text
    ++ words_below l.place (came_at l.old.owners.now l.old.set.now l.new.owners.now l.new.set.now)
