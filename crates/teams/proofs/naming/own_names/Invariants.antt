use Rattle.std.proofs.Common.{◌≡◌, ◌++◌, drop, map}
use Rattle.teams.specs.Naming.{own_name}
use Rattle.teams.proofs.naming.own_names.Given as goal

abbrev pub invariant-loop-name : goal.invariant-loop-name
invariant-loop-name l = l.own.items ++ map (own_name l.locks) (drop l.name-index l.names)
    ≡ map (own_name l.locks) l.names
