use Rattle.ceilings.proofs.WholeTable.{IsTableOfFirst}
use Rattle.ceilings.proofs.users.LockUsers.new.Given as goal

abbrev pub invariant-loop-index : goal.invariant-loop-index
invariant-loop-index l = IsTableOfFirst l.sheet-items l.index l.table
