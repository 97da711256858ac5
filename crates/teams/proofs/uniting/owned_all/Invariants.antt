use Rattle.std.proofs.Common.{◌≡◌, ◌++◌, drop}
use Rattle.teams.specs.Owned.{owned_all}
use Rattle.teams.proofs.uniting.owned_all.Given as goal

abbrev pub invariant-loop-part : goal.invariant-loop-part
invariant-loop-part l = l.tasks.items ++ owned_all (drop l.part-index l.sets) ≡ owned_all l.sets
