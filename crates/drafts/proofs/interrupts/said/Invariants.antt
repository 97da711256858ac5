use Rattle.std.proofs.Common.{◌≡◌, take}
use Rattle.drafts.specs.Applied.{said_of}
use Rattle.drafts.proofs.interrupts.said.Given as goal

abbrev pub invariant-loop-x : goal.invariant-loop-x
invariant-loop-x l = l.all.items ≡ said_of (take l.x-index l.interrupts)
