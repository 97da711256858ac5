use Rattle.std.proofs.Common.{◌≡◌, ◌++◌, drop, map}
use Rattle.teams.specs.Naming.{named_set, sets_fault}
use Rattle.teams.proofs.naming.named_sets.Given as goal

abbrev pub invariant-loop-part : goal.invariant-loop-part
invariant-loop-part l = record {
  fault : sets_fault l.locks (drop l.part-index l.sets) ≡ sets_fault l.locks l.sets;
  named : l.named.items ++ map (named_set l.locks) (drop l.part-index l.sets)
      ≡ map (named_set l.locks) l.sets;
}
