use Rattle.std.proofs.Common.{◌≡◌, drop}
use Rattle.teams.specs.Rights.{rights_fault}
use Rattle.teams.proofs.rights.rights_fault.Given as goal

abbrev pub invariant-loop-part : goal.invariant-loop-part
invariant-loop-part l =
    rights_fault l.budgets (drop l.part-index l.sets) ≡ rights_fault l.budgets l.sets
