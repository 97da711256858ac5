use Rattle.observed.proofs.CulpritLaws.{all_are, each_is, in_order}
use Rattle.observed.proofs.laws.culprits_are_exact.Goals as goal

pub returns-clause-named : goal.returns-clause-named
returns-clause-named c = all_are

pub returns-clause-all : goal.returns-clause-all
returns-clause-all c = each_is

pub returns-clause-order : goal.returns-clause-order
returns-clause-order c = in_order
