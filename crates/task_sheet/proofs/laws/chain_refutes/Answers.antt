use Rattle.task_sheet.proofs.PassingLaws.{IsChain-refutes}
use Rattle.task_sheet.proofs.laws.chain_refutes.Goals as goal

pub returns : goal.returns
returns c = λ U i H numbers valid. IsChain-refutes U valid i H numbers
