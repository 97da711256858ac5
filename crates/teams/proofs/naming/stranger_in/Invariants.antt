use Rattle.std.proofs.Common.{◌≡◌, drop}
use Rattle.teams.specs.Naming.{stranger_in}
use Rattle.teams.proofs.naming.stranger_in.Given as goal

abbrev pub invariant-loop-name : goal.invariant-loop-name
invariant-loop-name l = stranger_in l.locks (drop l.name-index l.names) ≡ stranger_in l.locks l.names
