use Rattle.ceilings.proofs.OutrankedLaws.{AreRowsOf}
use Rattle.ceilings.proofs.outranked.outranked_of.Given as goal

abbrev pub invariant-loop-index : goal.invariant-loop-index
invariant-loop-index l = AreRowsOf l.set l.rows l.index
