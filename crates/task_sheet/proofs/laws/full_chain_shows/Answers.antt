use Rattle.task_sheet.proofs.PassingLaws.{full_chain-iff}
use Rattle.task_sheet.proofs.laws.full_chain_shows.Goals as goal

pub returns : goal.returns
returns c = λ U i H valid. full_chain-iff U valid i H
