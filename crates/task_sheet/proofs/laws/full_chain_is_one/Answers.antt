use Rattle.task_sheet.proofs.ResponseLaws.{IsFullChain-one}
use Rattle.task_sheet.proofs.laws.full_chain_is_one.Goals as goal

pub returns : goal.returns
returns c = IsFullChain-one
