use Rattle.std.proofs.Common.{◌≡◌, ◌++◌, drop}
use Rattle.teams.specs.Agreeing.{interrupts_by}
use Rattle.teams.proofs.uniting.few_interrupts.Given as goal

abbrev pub invariant-loop-part : goal.invariant-loop-part
invariant-loop-part l =
    l.interrupts.items ++ interrupts_by (drop l.part-index l.sets) ≡ interrupts_by l.sets
