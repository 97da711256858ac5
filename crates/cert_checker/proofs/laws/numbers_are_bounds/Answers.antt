use Rattle.cert_checker.proofs.BoundedLaws.{numbers-bound}
use Rattle.cert_checker.proofs.laws.numbers_are_bounds.Goals as goal

pub returns : goal.returns
returns c = numbers-bound
