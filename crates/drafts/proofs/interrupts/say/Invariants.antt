use Rattle.std.proofs.Common.{◌≡◌, ◌++◌, take}
use Rattle.drafts.specs.Applied.{of_others, said_by}
use Rattle.drafts.proofs.interrupts.say.Given as goal

abbrev pub invariant-loop-interrupt : goal.invariant-loop-interrupt
invariant-loop-interrupt l = l.interrupts.items
    ≡ of_others l.team l.fn.interrupts.items ++ said_by l.team (take l.interrupt-index l.said)
