use Rattle.std.proofs.Common.{◌≡◌, ◌++◌, drop}
use Rattle.teams.specs.Owned.{owned_by}
use Rattle.teams.proofs.uniting.push_tasks.Given as goal

abbrev pub invariant-loop-own : goal.invariant-loop-own
invariant-loop-own l =
    l.tasks.items ++ owned_by l.team (drop l.own-index l.sheets) ≡ l.fn.tasks.items
    ++ owned_by l.team l.sheets
