use Rattle.std.proofs.Common.{◌≡◌, drop}
use Rattle.teams.specs.Agreeing.{first_saying}
use Rattle.teams.specs.Owned.{TeamSetData}
use Rattle.teams.proofs.uniting.first_node.Given as goal

abbrev pub invariant-loop-part : goal.invariant-loop-part
invariant-loop-part l =
    first_saying (λ (s : TeamSetData). s.node) (drop l.part-index l.sets)
    ≡ first_saying (λ (s : TeamSetData). s.node) l.sets
