use Rattle.diff.proofs.ChainLaws.{silent_keeps_chains}
use Rattle.diff.proofs.laws.silent_changes_no_chain.Goals as goal

pub returns : goal.returns
returns c = λ U was olds V is news silent. silent_keeps_chains U was olds V is news silent
