use Rattle.std.proofs.Common.{◌≡◌, ◌+◌, drop}
use Rattle.picture.specs.Titles.{place_past}
use Rattle.picture.proofs.title.place_past.Given as goal

abbrev pub invariant-loop-place : goal.invariant-loop-place
invariant-loop-place l =
    l.place + place_past (drop l.place l.title) l.left ≡ place_past l.title l.room
