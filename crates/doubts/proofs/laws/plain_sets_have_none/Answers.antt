use Rattle.doubts.proofs.PlainLaws.{none_if_plain, plain_is}
use Rattle.doubts.proofs.laws.plain_sets_have_none.Goals as goal

pub returns : goal.returns
returns c is_unpreferred U = (plain_is is_unpreferred U, none_if_plain is_unpreferred U)
