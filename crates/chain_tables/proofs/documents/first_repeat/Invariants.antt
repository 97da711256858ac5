use Rattle.std.proofs.Common.{◌≡◌, ◌+◌, [], drop, take}
use Rattle.chain_tables.specs.Tables.{first_repeat}
use Rattle.chain_tables.proofs.documents.first_repeat.Given as goal

abbrev pub invariant-loop-i : goal.invariant-loop-i
invariant-loop-i l =
    first_repeat (take l.i l.chains) (l.i + 1) (drop l.i l.chains) ≡ first_repeat [] 1 l.chains
